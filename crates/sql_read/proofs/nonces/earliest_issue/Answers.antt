use Rattle.sql_read.specs.Earliest.{issues}
use Rattle.sql_read.proofs.{EarliestRows.earliest_as, EarliestRows.issue_find, LookUpReadings.issue_reading, Looking.query_as}
use Rattle.sql_read.proofs.nonces.earliest_issue.Goals as goal

pub earliest-requires : goal.earliest-requires
earliest-requires g c = query_as c.all.ensures issue_reading.selecting

pub returns : goal.returns
returns g c = c.earliest.ensures issues (λ T has. earliest_as c.all.ensures (issue_find g.S.Store c.args.conn.now T has))
