use Rattle.sql_read.proofs.Streaming.{none_kept, whole_kept}
use Rattle.sql_read.proofs.checked.check_table.Goals as goal

pub returns-clause-whole : goal.returns-clause-whole
returns-clause-whole g c clean =
    whole_kept g.S.Store c.args.text.now g.C.Selected.spelled g.C.Columns.write g.C.Columns.IsStored g.K.RowCheck.Passed g.K.RowCheck.IsWhole _ c.args.check
    c.check_each.new.check c.requires.begun (c.in_ok-check_each.ensures.passed clean c.if-not-branch.false) c.in_ok-finish.field-0 c.in_ok-finish.ensures.whole

pub returns-clause-none : goal.returns-clause-none
returns-clause-none g c clean =
    none_kept g.S.Store c.args.text.now g.C.Selected.spelled g.C.Columns.write g.C.Selected.Fits g.C.Columns.IsStored c.requires.apart
    g.K.RowCheck.Passed g.K.RowCheck.AreAll c.args.conn.now c.args.check c.check_each.new.check c.requires.begun
    (c.in_ok-check_each.ensures.passed clean c.if-not-branch.false) c.in_ok-finish.field-0 c.in_ok-finish.ensures.fine
