use Rattle.sql_write.proofs.RowWrites.{nonce_texts, row_written}
use Rattle.sql_write.proofs.nonces.write_nonce.Goals as goal

pub returns-clause-writes : goal.returns-clause-writes
returns-clause-writes g c =
    row_written g.S.Store nonce_texts c.args.row.now c.args.write c.nonce_values-values.ensures c.nonce_values-values.ensures c.write_row.ensures.ran
