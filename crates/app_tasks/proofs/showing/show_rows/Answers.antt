use Rattle.std.proofs.Common.{subst}
use Rattle.app_reports.specs.{Listed.roster, declared.form.Form.Form}
use Rattle.app_tasks.specs.Showing.{ShowsRows}
use Rattle.app_tasks.proofs.Looked.{looks_by, shown_by}
use Rattle.app_tasks.proofs.showing.show_rows.Goals as goal

pub returns-clause-shows : goal.returns-clause-shows
returns-clause-shows g c =
    let rows = roster g.L.Item.PassedRow.rows (g.L.RowList.keeps c.args.list.now) g.L.RowList.line g.L.RowList.noun in
    let shows : Form → Type 0 = λ f. ShowsRows g.K.Kept.sight (rows f) (g.W.Write.contents c.args.out.now) (g.W.Write.contents c.list_rows-listed.new.out)
    c.args.store.now c.list_rows-listed.new.source c.ended.result in
    subst shows c.report_form.ensures
    (shown_by g.K.Kept.sight _ _ c.list_rows-listed.result c.ended.result c.ended.ensures _ c.list_rows-listed.ensures.printed)

pub returns-clause-looks : goal.returns-clause-looks
returns-clause-looks g c = looks_by g.K.Kept.sight _ _ c.list_rows-listed.result c.ended.result c.ended.ensures c.list_rows-listed.ensures.reads
