use Rattle.sql_write.proofs.RowWrites.{order_texts, row_written}
use Rattle.sql_write.proofs.orders.write_bare_order.Goals as goal

pub returns-clause-writes : goal.returns-clause-writes
returns-clause-writes g c =
    row_written g.S.Store order_texts c.args.row.now c.args.write c.order_values.ensures.all c.order_values.ensures.updates c.write_row-written.ensures.ran
