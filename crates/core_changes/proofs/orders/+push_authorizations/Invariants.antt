use Rattle.std.proofs.Common.{length}
use Rattle.core_changes.proofs.orders.+push_authorizations.Given as goal

abbrev pub decreases-push_authorizations : goal.decreases-push_authorizations
decreases-push_authorizations l = length l.wanted.now
