use Rattle.std.proofs.Common.{subst}
use Rattle.app_reports.specs.{Printed.faults_text, declared.form.Form.Form}
use Rattle.app_tasks.specs.Showing.{ShowsText}
use Rattle.app_tasks.proofs.Looked.{looks_by, shown_by}
use Rattle.app_tasks.proofs.showing.show_faults.Goals as goal
use Rattle.desk_model.specs.Derived.{status_faults}

pub returns-clause-shows : goal.returns-clause-shows
returns-clause-shows g c =
    let shows : Form → Type 0 = λ f. ShowsText g.K.Kept.sight (λ T. faults_text f (status_faults T)) (g.W.Write.contents c.args.out.now)
    (g.W.Write.contents c.list_faults-checked.new.out) c.args.store.now c.list_faults-checked.new.source c.ended.result in
    subst shows c.report_form.ensures
    (shown_by g.K.Kept.sight _ _ c.list_faults-checked.result c.ended.result c.ended.ensures _ c.list_faults-checked.ensures.printed)

pub returns-clause-looks : goal.returns-clause-looks
returns-clause-looks g c = looks_by g.K.Kept.sight _ _ c.list_faults-checked.result c.ended.result c.ended.ensures c.list_faults-checked.ensures.reads
