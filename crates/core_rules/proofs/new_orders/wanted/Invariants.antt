use Rattle.std.proofs.Common.{◌≡◌, ◌≤◌, ◌*◌, ◌++◌, length}
use Rattle.std.specs.Prelude.{sum_by}
use Rattle.core_rules.specs.Making.{drawn_for, wanted_for}
use Rattle.core_rules.proofs.new_orders.wanted.Given as goal

abbrev pub invariant-loop-one : goal.invariant-loop-one
invariant-loop-one l = record {
  taken : l.found.items ++ wanted_for l.one-iterator.rest.items l.rest ≡ wanted_for l.fn.served.items l.random;
  enough : 16 * sum_by drawn_for l.one-iterator.rest.items ≤ length l.rest;
}
