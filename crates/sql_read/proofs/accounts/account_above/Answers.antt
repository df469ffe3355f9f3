use Rattle.sql_read.proofs.{LookUpReadings.account_above_reading, LookUpRows.account_above_find, Looking.looked_as, Looking.query_as}
use Rattle.sql_read.proofs.accounts.account_above.Goals as goal

pub find_rows-requires : goal.find_rows-requires
find_rows-requires g c = query_as c.number.ensures (account_above_reading c.args.number).selecting

pub returns : goal.returns
returns g c = looked_as c.number.ensures (λ T has book. account_above_find g.S.Store c.args.conn.now T has book c.args.number) c.find_rows.ensures
