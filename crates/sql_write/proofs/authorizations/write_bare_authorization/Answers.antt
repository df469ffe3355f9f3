use Rattle.sql_write.proofs.RowWrites.{authorization_texts, row_written}
use Rattle.sql_write.proofs.authorizations.write_bare_authorization.Goals as goal

pub returns-clause-writes : goal.returns-clause-writes
returns-clause-writes g c =
    row_written g.S.Store authorization_texts c.args.row.now c.args.write
    c.authorization_values.ensures.all c.authorization_values.ensures.updates c.write_row.ensures.ran
