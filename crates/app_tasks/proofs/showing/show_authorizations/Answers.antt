use Rattle.std.proofs.Common.{Option, subst}
use Rattle.app_reports.specs.Listed.{authorizations_roster}
use Rattle.app_tasks.specs.Showing.{ShowsRows, authorizations_by, report_form}
use Rattle.app_tasks.proofs.showing.show_authorizations.Goals as goal
use Rattle.desk_model.specs.Name.{Name}

pub returns-clause-shows : goal.returns-clause-shows
returns-clause-shows g c =
    let shows : Option Name → Type 0 = λ name. ShowsRows g.K.Kept.sight
    (authorizations_roster (authorizations_by c.args.account name) (report_form c.args.form)) (g.W.Write.contents c.args.out.now)
    (g.W.Write.contents c.show_rows.new.out) c.args.store.now c.show_rows.new.store c.show_rows.result in
    subst shows c.in-Ok.ensures c.show_rows.ensures.shows
