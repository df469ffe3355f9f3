use Rattle.std.proofs.Common.{◌≡◌}
use Rattle.sql_write.specs.{Statements.key_writing, Statements.writes, declared.stored.Write.TheVariants.Upsert}
use Rattle.sql_write.proofs.{RowsInTurn.put_turns, Written.HasWrittenFirst}
use Rattle.sql_tables.specs.Layouts.{key_layout}
use Rattle.sql_write.proofs.children.write_keys.Given as goal

abbrev pub invariant-loop-row : goal.invariant-loop-row
invariant-loop-row g l = record {
  same : l.tx.conn.ghost_name ≡ l.fn.tx.conn.ghost_name;
  writes : HasWrittenFirst g.S.Store (writes key_writing Upsert) (put_turns key_layout)
      l.rows l.row-index l.fn.tx.conn.now l.tx.conn.now;
}
