use Rattle.std.proofs.Common.{◌≡◌, take}
use Rattle.core_rules.proofs.judging.copies_of.Given as goal

abbrev pub invariant-loop-subproblem : goal.invariant-loop-subproblem
invariant-loop-subproblem l = l.copies.items ≡ take l.subproblem-index l.subproblems
