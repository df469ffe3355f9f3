use Rattle.std.proofs.Common.{◌≡◌}
use Rattle.sqlite.specs.{State.Survives, Held.state}
use Rattle.sql_schema.specs.{Advances.Advances, Defined.Defines}
use Rattle.sql_write.specs.{Refusals.HaveRun, Statements.defines_before}
use Rattle.sql_write.proofs.definitions.define_all.Given as goal

abbrev pub invariant-loop-step : goal.invariant-loop-step
invariant-loop-step g l = record {
  same : l.tx.conn.ghost_name ≡ l.fn.tx.conn.ghost_name;
  advances : Advances (state g.S.Store l.fn.tx.conn.now) (state g.S.Store l.tx.conn.now) (Defines l.step);
  survives : Survives (state g.S.Store l.fn.tx.conn.now) (state g.S.Store l.tx.conn.now) (λ _. ⊥);
  told : HaveRun g.S.Store (defines_before l.step) l.fn.tx.conn.now l.tx.conn.now;
}
