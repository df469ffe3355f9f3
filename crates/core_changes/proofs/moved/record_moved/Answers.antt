use Rattle.core_changes.proofs.RowMoves.{puts-step, touches-step}
use Rattle.core_changes.proofs.moved.record_moved.Goals as goal
use Rattle.std.proofs.Common.{arith}

pub loop-row-preserved : goal.loop-row-preserved
loop-row-preserved g c = grind (arith, puts-step, touches-step)
