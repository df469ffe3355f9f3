use Rattle.std.proofs.Common.{rules, ◌++◌, ◌∷◌, []}
use Rattle.desk_model.specs.declared.entry.Entry.TheVariants.{Opened as opened}
use Rattle.core_changes.proofs.Recordings.{and_opened, recorded_as, both_ok}
use Rattle.core_changes.proofs.recording.Recording.open.Goals as goal

pub returns-clause-changes : goal.returns-clause-changes
returns-clause-changes c = search rules

pub returns-clause-counters : goal.returns-clause-counters
returns-clause-counters c = search rules

pub returns-clause-recorded : goal.returns-clause-recorded
returns-clause-recorded c =
    both_ok c.push.result (returns-clause-changes c) (returns-clause-counters c)
    (λ made same m B es h. recorded_as m B (es ++ opened c.args.key c.args.contacts ∷ []) _ _ _ _ made same
    (and_opened m B es c.args.key c.args.contacts c.args.self.now.changes.items c.args.self.now.counters h))
