use Rattle.sql_write.proofs.Upgraded.{key_table_defined}
use Rattle.sql_write.proofs.definitions.define_key_table.Goals as goal

pub returns-clause-writes : goal.returns-clause-writes
returns-clause-writes g c =
    key_table_defined g.S.Store _ c.args.tx.now.conn.now c.execute_or_fault.new.tx.conn.now c.execute_or_fault.result c.definition.ensures
    c.execute_or_fault.ensures.ran
