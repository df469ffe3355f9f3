use Rattle.std.proofs.Common.{◌≡◌, ◌++◌, map, drop}
use Rattle.desk_model.specs.{Entry.entry_of, Effect.noted_challenge}
use Rattle.core_changes.proofs.noted.noted_challenges.Given as goal

abbrev pub invariant-loop-row : goal.invariant-loop-row
invariant-loop-row l = l.noted.items ++ map (noted_challenge (entry_of l.motion) l.moment l.key) (drop l.row-index l.rows)
    ≡ map (noted_challenge (entry_of l.motion) l.moment l.key) l.rows
