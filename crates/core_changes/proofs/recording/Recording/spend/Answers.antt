use Rattle.core_changes.proofs.Recordings.{and_spent, recorded_as, both_ok}
use Rattle.core_changes.proofs.recording.Recording.spend.Goals as goal
use Rattle.std.proofs.Common.{rules}

pub returns-clause-recorded : goal.returns-clause-recorded
returns-clause-recorded c = search (rules, both_ok, recorded_as, and_spent)
