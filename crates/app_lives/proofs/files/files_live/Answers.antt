use Rattle.desk.proofs.Living.{ended_seen_stays, nonces_seen_once, replies_are_kept, seen_is_lived, seen_is_of_calls}
use Rattle.desk_files.specs.LeftFiles.{file_sight}
use Rattle.app_lives.proofs.SeenInFiles.{failures_are_seen, files_are_seen}
use Rattle.app_lives.proofs.files.files_live.Goals as goal

pub returns-clause-seen : goal.returns-clause-seen
returns-clause-seen g c = files_are_seen g.D.Disk

pub returns-clause-failed : goal.returns-clause-failed
returns-clause-failed g c = failures_are_seen g.D.Disk

pub returns-clause-lived : goal.returns-clause-lived
returns-clause-lived g c = seen_is_lived (file_sight g.D.Disk)

pub returns-clause-of_calls : goal.returns-clause-of_calls
returns-clause-of_calls g c = seen_is_of_calls (file_sight g.D.Disk)

pub returns-clause-kept : goal.returns-clause-kept
returns-clause-kept g c = replies_are_kept (file_sight g.D.Disk)

pub returns-clause-nonces : goal.returns-clause-nonces
returns-clause-nonces g c = nonces_seen_once (file_sight g.D.Disk)

pub returns-clause-ended : goal.returns-clause-ended
returns-clause-ended g c = ended_seen_stays (file_sight g.D.Disk)
