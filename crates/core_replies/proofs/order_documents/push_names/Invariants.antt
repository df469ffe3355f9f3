use Rattle.std.proofs.Common.{◌≡◌, ◌++◌, map, drop}
use Rattle.desk_model.specs.{Derived.numbers_of, Document.rows_of}
use Rattle.core_replies.proofs.order_documents.push_names.Given as goal

abbrev pub invariant-loop-place : goal.invariant-loop-place
invariant-loop-place l =
    l.names.items ++ map (λ a. a.name) (rows_of l.rows (numbers_of (drop l.place-index l.listed)))
    ≡ l.fn.names.items ++ map (λ a. a.name) (rows_of l.rows (numbers_of l.listed))
