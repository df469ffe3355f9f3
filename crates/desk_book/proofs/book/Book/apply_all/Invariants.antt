use Rattle.std.proofs.Common.{◌≡◌}
use Rattle.desk_model.specs.Change.{applied}
use Rattle.desk_book.proofs.book.Book.apply_all.Given as goal

abbrev pub invariant-loop-change : goal.invariant-loop-change
invariant-loop-change l = l.self ≡ applied l.yielded l.fn.self
