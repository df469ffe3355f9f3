use Rattle.model_laws.proofs.Keeps.{each-filter}
use Rattle.model_parts.specs.Above.{first_of, orders_above}
use Rattle.sql_read.proofs.Looking.{finds_as, looked, query_as}
use Rattle.sql_read.proofs.{LookUpReadings.order_above_reading, LookUpRows.order_above_find, Lists.each_take, UnderLemmas.orders_have}
use Rattle.sql_read.proofs.orders.order_above.Goals as goal

pub find_wholes-requires : goal.find_wholes-requires
find_wholes-requires g c = query_as c.number.ensures (order_above_reading c.args.number).selecting

pub returns : goal.returns
returns g c =
    looked (λ T. first_of (orders_above T c.args.number))
    (λ T has book. (
      each_take _ 1 _ (each-filter _ _ T.orders (orders_have 0 T.orders has.rising.orders)),
      finds_as c.number.ensures (order_above_find g.S.Store c.args.conn.now T has book c.args.number),
    ))
    (λ T has book rows are. are) c.find_wholes.ensures
