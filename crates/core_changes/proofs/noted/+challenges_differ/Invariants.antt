use Rattle.std.proofs.Common.{length}
use Rattle.core_changes.proofs.noted.+challenges_differ.Given as goal

abbrev pub decreases-challenges_differ : goal.decreases-challenges_differ
decreases-challenges_differ l = length l.before.now
