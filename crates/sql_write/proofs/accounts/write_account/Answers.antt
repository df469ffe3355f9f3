use Rattle.sql_write.proofs.RowWrites.{account_texts, row_written}
use Rattle.sql_write.proofs.accounts.write_account.Goals as goal

pub returns-clause-writes : goal.returns-clause-writes
returns-clause-writes g c =
    row_written g.S.Store account_texts c.args.row.now c.args.write c.account_values.ensures.all c.account_values.ensures.updates
    c.write_row-written.ensures.ran
