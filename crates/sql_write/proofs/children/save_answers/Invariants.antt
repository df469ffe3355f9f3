use Rattle.std.proofs.Common.{◌≡◌}
use Rattle.std.specs.Prelude.{option_copied}
use Rattle.sql_write.specs.{Makes.key_under, Statements.saves_answer}
use Rattle.sql_write.proofs.{RowsInTurn.keys_turns, Written.HasWrittenFirst}
use Rattle.sql_write.proofs.children.save_answers.Given as goal

abbrev pub invariant-loop-row : goal.invariant-loop-row
invariant-loop-row g l = record {
  same : l.tx.conn.ghost_name ≡ l.fn.tx.conn.ghost_name;
  writes : HasWrittenFirst g.S.Store (saves_answer (option_copied l.fn.stored) l.fn.last) (keys_turns (key_under (option_copied l.fn.stored))
      l.fn.authorization)
      l.rows l.row-index l.fn.tx.conn.now l.tx.conn.now;
}
