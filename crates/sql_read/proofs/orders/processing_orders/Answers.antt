use Rattle.model_parts.specs.declared.queries.OrdersWhere.TheVariants as orders_by
use Rattle.sql_read.proofs.{LookUpReadings.orders_asked, LookUpRows.orders_find, Looking.looked_as, Looking.query_as}
use Rattle.sql_read.proofs.orders.processing_orders.Goals as goal

pub find_rows-requires : goal.find_rows-requires
find_rows-requires g c = query_as c.query_of-query.ensures (orders_asked orders_by.Processing).selecting

pub returns : goal.returns
returns g c = looked_as c.query_of-query.ensures (λ T has book. orders_find g.S.Store c.args.conn.now T has book orders_by.Processing) c.find_rows.ensures
