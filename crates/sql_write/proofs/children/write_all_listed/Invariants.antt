use Rattle.std.proofs.Common.{◌≡◌}
use Rattle.sql_write.specs.Statements.{writes_listed}
use Rattle.sql_write.proofs.{RowsInTurn.listed_turns, Written.HasWrittenFirst}
use Rattle.sql_write.proofs.children.write_all_listed.Given as goal

abbrev pub invariant-loop-row : goal.invariant-loop-row
invariant-loop-row g l = record {
  same : l.tx.conn.ghost_name ≡ l.fn.tx.conn.ghost_name;
  writes : HasWrittenFirst g.S.Store (writes_listed l.fn.write l.fn.order) (listed_turns l.fn.write l.fn.order)
      l.rows l.row-index l.fn.tx.conn.now l.tx.conn.now;
}
