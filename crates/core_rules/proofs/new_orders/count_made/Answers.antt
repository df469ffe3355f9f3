use Rattle.std.proofs.Common.{◌+◌, ◌<◌, ◌^◌, arith, rules}
use Rattle.core_rules.specs.Making.{drawn_for, made_for}
use Rattle.core_rules.proofs.NamesWanted.{count-fits, drawn-le, made-le}
use Rattle.core_rules.proofs.new_orders.count_made.Goals as goal

pub overflow_add-made : goal.overflow_add-made
overflow_add-made c =
    let fits : c.loop-one.made + c.made_for-authorizations.result.0 < 2 ^ 64 =
    omega (
      arith,
      count-fits made_for c.args.served.now c.loop-one.one-index c.one-item.result c.loop-one.made
          made-le c.loop-one-test.true c.one-item.is c.loop-one.invariant.made,
      c.made_for-authorizations.ensures.made,
    ) in
    search (rules, fits)

pub overflow_add-drawn : goal.overflow_add-drawn
overflow_add-drawn c =
    let fits : c.loop-one.drawn + c.made_for-authorizations.result.1 < 2 ^ 64 =
    omega (
      arith,
      count-fits drawn_for c.args.served.now c.loop-one.one-index c.one-item.result c.loop-one.drawn
          drawn-le c.loop-one-test.true c.one-item.is c.loop-one.invariant.drawn,
      c.made_for-authorizations.ensures.drawn,
    ) in
    search (rules, fits)
