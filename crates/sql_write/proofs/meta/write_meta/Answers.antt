use Rattle.store_columns.specs.Columns.{known_format}
use Rattle.sql_write.proofs.RowWrites.{meta_texts, row_written}
use Rattle.sql_write.proofs.meta.write_meta.Goals as goal

pub returns-clause-writes : goal.returns-clause-writes
returns-clause-writes g c =
    row_written g.S.Store meta_texts (known_format, c.args.row.now) c.args.write c.meta_values.ensures.all c.meta_values.ensures.updates c.write_row.ensures.ran
