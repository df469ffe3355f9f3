use Rattle.std.proofs.Common.{◌≡◌}
use Rattle.sqlite.specs.{Held.state, State.HasCleanDisk}
use Rattle.sql_schema.specs.Stays.{Asks}
use Rattle.sql_read.specs.Checking.{GoesOn, HasGivenRows}
use Rattle.sql_read.proofs.checked.check_each.Given as goal

abbrev pub invariant-loop : goal.invariant-loop
invariant-loop g l =
    let old = state g.S.Store l.fn.conn in
    let now = state g.S.Store l.rows.conn.now in
    (l.rows.conn.ghost_name ≡ l.initial.rows.conn.ghost_name) × Asks old now
    × (HasCleanDisk now → HasGivenRows g.S.Store l.text g.C.Selected.spelled g.C.Columns.write g.C.Columns.IsStored l.fn.conn l.rows.conn.now
    (GoesOn g.K.RowCheck.Passed l.fn.check l.check))
