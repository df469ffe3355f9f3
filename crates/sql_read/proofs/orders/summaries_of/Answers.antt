use Rattle.sql_read.proofs.{LookUpReadings.summaries_reading, LookUpRows.summaries_find, Looking.looked_as, Looking.query_as}
use Rattle.sql_read.proofs.orders.summaries_of.Goals as goal

pub find_rows-requires : goal.find_rows-requires
find_rows-requires g c = query_as c.number-query.ensures (summaries_reading c.args.account).selecting

pub returns : goal.returns
returns g c = looked_as c.number-query.ensures (λ T has book. summaries_find g.S.Store c.args.conn.now T has book c.args.account) c.find_rows.ensures
