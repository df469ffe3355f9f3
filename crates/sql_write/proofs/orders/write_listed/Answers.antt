use Rattle.std.proofs.Common.{rules}
use Rattle.sql_write.proofs.RowWrites.{listed_texts, row_written}
use Rattle.sql_write.proofs.orders.write_listed.Goals as goal

pub returns-clause-writes : goal.returns-clause-writes
returns-clause-writes g c =
    row_written g.S.Store listed_texts (record { owner = c.args.order; row = c.args.row.now }) c.args.write
    (search rules) (search rules) c.write_row.ensures.ran
