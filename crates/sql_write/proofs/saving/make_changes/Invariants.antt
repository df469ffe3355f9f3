use Rattle.std.proofs.Common.{◌≡◌, Ok, take}
use Rattle.sql_write.specs.{Highest.IsAbove, Makes.MakesAll, Refusals.HasWritten, Statements.statements_from}
use Rattle.sql_write.proofs.saving.make_changes.Given as goal

abbrev pub invariant-loop-place : goal.invariant-loop-place
invariant-loop-place g l = record {
  same : l.tx.conn.ghost_name ≡ l.fn.tx.conn.ghost_name;
  writes : HasWritten g.S.Store {X = Unit {0}} (statements_from l.fn.last l.fn.part (take l.place l.changes))
      (MakesAll l.fn.part (take l.place l.changes)) l.fn.tx.conn.now l.tx.conn.now (Ok tt);
  above : IsAbove l.highest (take l.place l.changes);
}
