use Rattle.std.proofs.Common.{rules, ◌++◌, ◌∷◌, [], append_assoc}
use Rattle.desk_model.specs.declared.entry.Entry.TheVariants.{Ordered as ordered}
use Rattle.core_changes.proofs.{Recordings.both_ok, Recordings.recorded_as, Moving.and_ordered}
use Rattle.core_changes.proofs.recording.Recording.order.Goals as goal

pub returns-clause-changes : goal.returns-clause-changes
returns-clause-changes c = search (rules, append_assoc)

pub returns-clause-counters : goal.returns-clause-counters
returns-clause-counters c = search rules

pub returns-clause-recorded : goal.returns-clause-recorded
returns-clause-recorded c =
    both_ok c.push.result (returns-clause-changes c) (returns-clause-counters c)
    (λ made same m B es policy is untouched reusable h. recorded_as m B (es ++ ordered c.args.account c.args.wanted.now ∷ []) _ _ _ _ made same
    (and_ordered m B es c.args.policy.now c.args.account c.args.wanted.now c.args.self.now.changes.items c.args.self.now.counters policy is untouched reusable
    h))
