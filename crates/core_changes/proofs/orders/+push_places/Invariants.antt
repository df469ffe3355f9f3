use Rattle.std.proofs.Common.{length}
use Rattle.core_changes.proofs.orders.+push_places.Given as goal

abbrev pub decreases-push_places : goal.decreases-push_places
decreases-push_places l = length l.wanted.now
