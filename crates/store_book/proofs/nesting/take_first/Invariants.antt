use Rattle.std.proofs.Common.{◌≡◌, ◌++◌, length}
use Rattle.store_book.specs.Nesting.{first_of, behind}
use Rattle.store_book.proofs.nesting.take_first.Given as goal

abbrev pub invariant-loop-row : goal.invariant-loop-row
invariant-loop-row g l = record {
  taken : l.taken.items ++ first_of l.owner l.rows.items ≡ first_of l.owner l.fn.rows.items;
  rest : behind l.owner l.rows.items ≡ behind l.owner l.fn.rows.items;
}

abbrev pub decreases-loop-row : goal.decreases-loop-row
decreases-loop-row g l = length l.rows.items
