use Rattle.std.proofs.Common.{length}
use Rattle.core_changes.proofs.orders.+push_challenges.Given as goal

abbrev pub decreases-push_challenges : goal.decreases-push_challenges
decreases-push_challenges l = length l.kinds.now
