use Rattle.std.proofs.Common.{◌≡◌, ◌+◌, drop}
use Rattle.std.specs.Prelude.{sum_by}
use Rattle.core_rules.specs.Making.{drawn_for, made_for}
use Rattle.core_rules.proofs.new_orders.count_made.Given as goal

abbrev pub invariant-loop-one : goal.invariant-loop-one
invariant-loop-one l = record {
  made : l.made + sum_by made_for (drop l.one-index l.served) ≡ sum_by made_for l.served;
  drawn : l.drawn + sum_by drawn_for (drop l.one-index l.served) ≡ sum_by drawn_for l.served;
}
