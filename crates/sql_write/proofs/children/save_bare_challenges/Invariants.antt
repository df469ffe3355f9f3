use Rattle.std.proofs.Common.{◌≡◌}
use Rattle.std.specs.Prelude.{option_copied}
use Rattle.sql_write.specs.{Makes.challenge_under, Statements.saves_challenge}
use Rattle.sql_write.proofs.{RowsInTurn.over_turns, Written.HasWrittenFirst}
use Rattle.sql_tables.specs.Layouts.{challenge_layout}
use Rattle.sql_write.proofs.children.save_bare_challenges.Given as goal

abbrev pub invariant-loop-row : goal.invariant-loop-row
invariant-loop-row g l = record {
  same : l.tx.conn.ghost_name ≡ l.fn.tx.conn.ghost_name;
  writes : HasWrittenFirst g.S.Store (saves_challenge (option_copied l.fn.stored) l.fn.last l.fn.authorization)
      (over_turns challenge_layout (challenge_under (option_copied l.fn.stored)) l.fn.authorization) l.rows l.row-index l.fn.tx.conn.now l.tx.conn.now;
}
