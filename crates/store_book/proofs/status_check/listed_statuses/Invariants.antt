use Rattle.std.proofs.Common.{◌≡◌, ◌++◌, drop}
use Rattle.desk_model.specs.Derived.{numbers_of, stored_statuses}
use Rattle.store_book.proofs.status_check.listed_statuses.Given as goal

abbrev pub invariant-loop-listed : goal.invariant-loop-listed
invariant-loop-listed l =
    l.statuses.items ++ stored_statuses l.book.authorizations (numbers_of (drop l.listed-index l.listed))
    ≡ stored_statuses l.book.authorizations (numbers_of l.listed)
