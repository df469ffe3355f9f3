use Rattle.std.proofs.Common.{◌≡◌, ◌++◌, drop, map}
use Rattle.core_rules.specs.Making.{served_name}
use Rattle.core_rules.proofs.new_orders.served_names.Given as goal

abbrev pub invariant-loop-name : goal.invariant-loop-name
invariant-loop-name l =
    l.served.items ++ map (served_name l.at l.account) (drop l.name-index l.names) ≡ map (served_name l.at l.account) l.names
