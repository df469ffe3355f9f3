use Rattle.model_laws.proofs.Keeps.{each-filter}
use Rattle.model_parts.specs.LookUps.{orders_where}
use Rattle.sql_read.proofs.{LookUpReadings.orders_asked, LookUpRows.orders_find, UnderLemmas.orders_have, Looking.finds_as, Looking.looked, Looking.query_as}
use Rattle.sql_read.proofs.orders.find_orders.Goals as goal

pub find_wholes-requires : goal.find_wholes-requires
find_wholes-requires g c = query_as c.query_of.ensures (orders_asked c.args.which).selecting

pub returns : goal.returns
returns g c =
    looked (λ T. orders_where T c.args.which)
    (λ T has book. (
      each-filter _ _ T.orders (orders_have 0 T.orders has.rising.orders),
      finds_as c.query_of.ensures (orders_find g.S.Store c.args.conn.now T has book c.args.which),
    ))
    (λ T has book rows are. are) c.find_wholes.ensures
