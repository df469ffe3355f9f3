use Rattle.std.proofs.Common.{◌≡◌, drop, map, take}
use Rattle.desk_model.specs.Kept.{EachOf}
use Rattle.sql_read.specs.LookUpFaults.{AreTableRows}
use Rattle.sql_read.proofs.rows.rows_of.Given as goal

abbrev pub invariant-loop-row : goal.invariant-loop-row
invariant-loop-row g l = record {
  stored : EachOf g.C.Columns.IsStored l.all.items;
  columns : map g.C.Selected.spelled (take l.row-index l.rows) ≡ map g.C.Columns.write l.all.items;
  left : AreTableRows g.C.Selected.spelled g.C.Selected.Fits g.C.Columns.write g.C.Columns.IsStored l.rows
      → AreTableRows g.C.Selected.spelled g.C.Selected.Fits g.C.Columns.write g.C.Columns.IsStored (drop l.row-index l.rows);
}
