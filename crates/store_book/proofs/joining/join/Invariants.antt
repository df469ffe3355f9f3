use Rattle.std.proofs.Common.{◌≡◌, ◌++◌, drop}
use Rattle.store_book.specs.Joining.{joined}
use Rattle.store_book.proofs.joining.join.Given as goal

abbrev pub invariant-loop-row : goal.invariant-loop-row
invariant-loop-row l = l.rows.items ++ joined (drop l.row-index l.challenges) l.rest ≡ joined l.challenges l.keys
