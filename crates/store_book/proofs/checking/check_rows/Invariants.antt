use Rattle.std.proofs.Common.{take}
use Rattle.store_book.proofs.checking.check_rows.Given as goal

abbrev pub invariant-loop-row : goal.invariant-loop-row
invariant-loop-row g l = g.K.RowCheck.Passed l.fn.check l.check (take l.row-index l.rows)
