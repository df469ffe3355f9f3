use Rattle.std.proofs.Common.{◌≡◌, ◌++◌}
use Rattle.std.specs.List.{flat_map}
use Rattle.desk_model.specs.Derived.{challenge_faults}
use Rattle.store_book.specs.FaultNumbers.{challenges_of}
use Rattle.store_book.proofs.status_check.push_all_challenges.Given as goal

abbrev pub invariant-loop-row : goal.invariant-loop-row
invariant-loop-row l =
    l.faults.items ++ flat_map challenge_faults (challenges_of l.row-iterator)
    ≡ l.fn.faults.items ++ flat_map challenge_faults (challenges_of l.authorizations)
