use Rattle.std.proofs.Common.{◌++◌, [], ◌∷◌, ◌∙◌, ap, map, subst, sym, take}
use Rattle.std.proofs.lemmas.List.{map-append, take_more}
use Rattle.model_laws.proofs.Basics.{each-append}
use Rattle.store_book.proofs.SliceLoops.{one-more}
use Rattle.desk_model.specs.Kept.{EachOf}
use Rattle.sql_read.specs.LookUpFaults.{AreTableRows, IsOfMemory}
use Rattle.sql_read.proofs.{LookUpFaults.table_first, Results.failed_as}
use Rattle.sql_read.proofs.rows.rows_of.Goals as goal

pub loop-row-preserved : goal.loop-row-preserved
loop-row-preserved g c =
    let rows = c.args.rows.now in
    let index = c.loop-row.row-index in
    let before = c.loop-row.invariant in
    let found = c.in_ok-found.found in
    let all = c.loop-row.all.items in
    let AreRows = AreTableRows g.C.Selected.spelled g.C.Selected.Fits g.C.Columns.write g.C.Columns.IsStored in
    record {
      stored = subst (EachOf g.C.Columns.IsStored) (sym c.in_ok-push.ensures.items)
          (each-append g.C.Columns.IsStored all (found ∷ []) before.stored (c.in_ok-found.ensures.row.0, tt));
      columns =
          ap (map g.C.Selected.spelled) (take_more rows index _ c.loop-row-test.true)
          ∙ map-append g.C.Selected.spelled (take index rows) _
          ∙ (λ i. before.columns i ++ (ap g.C.Selected.spelled (sym c.row-item.is) ∙ c.in_ok-found.ensures.row.1) i ∷ [])
          ∙ sym (map-append g.C.Columns.write all (found ∷ []))
          ∙ ap (map g.C.Columns.write) (sym c.in_ok-push.ensures.items);
      left = λ are.
          (table_first g.C.Selected.spelled g.C.Selected.Fits g.C.Columns.write g.C.Columns.IsStored _ _
          (subst AreRows (one-more rows index c.row-item.result c.loop-row-test.true) (before.left are))).1;
    }

pub returns-in_err-found-clause-fault : goal.returns-in_err-found-clause-fault
returns-in_err-found-clause-fault g c are =
    let rows = c.args.rows.now in
    let index = c.loop-row.row-index in
    let AreRows = AreTableRows g.C.Selected.spelled g.C.Selected.Fits g.C.Columns.write g.C.Columns.IsStored in
    let it = (table_first g.C.Selected.spelled g.C.Selected.Fits g.C.Columns.write g.C.Columns.IsStored _ _
    (subst AreRows (one-more rows index _ c.loop-row-test.true) (c.loop-row.invariant.left are))).0 in
    failed_as c.from_residual.result c.in_err-found.field-0.0 IsOfMemory
    (c.in_err-found.ensures.fault (subst g.C.Selected.Fits (sym c.row-item.is) it.0) it.1.0 it.1.1 (ap g.C.Selected.spelled c.row-item.is ∙ it.1.2))
    c.from_residual.ensures.1
