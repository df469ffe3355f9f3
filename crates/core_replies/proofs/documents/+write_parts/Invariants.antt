use Rattle.std.proofs.Common.{length}
use Rattle.core_replies.proofs.documents.+write_parts.Given as goal

abbrev pub decreases-write_parts : goal.decreases-write_parts
decreases-write_parts l = length l.parts.now
