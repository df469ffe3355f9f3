use Rattle.sql_read.proofs.{LookUpReadings.accounts_asked, LookUpRows.accounts_find, Looking.looked_as, Looking.query_as}
use Rattle.sql_read.proofs.accounts.find_accounts.Goals as goal

pub find_rows-requires : goal.find_rows-requires
find_rows-requires g c = query_as c.query_of.ensures (accounts_asked c.args.which).selecting

pub returns : goal.returns
returns g c = looked_as c.query_of.ensures (λ T has book. accounts_find g.S.Store c.args.conn.now T has book c.args.which) c.find_rows.ensures
