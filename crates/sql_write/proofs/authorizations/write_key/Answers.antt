use Rattle.std.proofs.Common.{rules}
use Rattle.sql_write.proofs.RowWrites.{key_texts, row_written}
use Rattle.sql_write.proofs.authorizations.write_key.Goals as goal

pub returns-clause-writes : goal.returns-clause-writes
returns-clause-writes g c =
    row_written g.S.Store key_texts c.args.row.now c.args.write (search rules) (search rules) c.write_row.ensures.ran
