use Rattle.std.proofs.Common.{length}
use Rattle.core_changes.proofs.orders.+made_status.Given as goal

abbrev pub decreases-made_status : goal.decreases-made_status
decreases-made_status l = length l.wanted.now
