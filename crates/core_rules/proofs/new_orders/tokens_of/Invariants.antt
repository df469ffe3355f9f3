use Rattle.std.proofs.Common.{◌≡◌}
use Rattle.desk_model.specs.Rules.{pieces}
use Rattle.core_rules.proofs.new_orders.tokens_of.Given as goal

abbrev pub invariant-loop-place : goal.invariant-loop-place
invariant-loop-place l = l.tokens.items ≡ pieces l.place l.random
