use Rattle.core_rules.proofs.NamesWanted.{pieces-last}
use Rattle.core_rules.proofs.new_orders.tokens_of.Goals as goal
use Rattle.std.proofs.Common.{rules}

pub loop-place-preserved : goal.loop-place-preserved
loop-place-preserved c = search (rules, pieces-last)
