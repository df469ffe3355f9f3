use Rattle.core_changes.proofs.Moving.{and_moved}
use Rattle.core_changes.proofs.recording.Recording.shift.Goals as goal
use Rattle.std.proofs.Common.{arith}

pub returns-clause-recorded : goal.returns-clause-recorded
returns-clause-recorded c m es untouched h =
    grind (arith, (and_moved m c.args.book.now es c.args.motion.now c.args.self.now.changes.items c.args.self.now.counters untouched h))
