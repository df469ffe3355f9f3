use Rattle.std.proofs.Common.{subst, sym}
use Rattle.std.specs.Io.KnownBytes.{Appends}
use Rattle.desk_model.specs.Derived.{status_faults}
use Rattle.app_reports.proofs.Printing.{text_without}
use Rattle.app_reports.proofs.faults.list_faults.Goals as goal

pub returns-else-says_none-clause-printed : goal.returns-else-says_none-clause-printed
returns-else-says_none-clause-printed g c honest T holds =
    let before = c.in_ok-found.ensures.reads.honest honest in
    let still = c.in_ok-moment.ensures.reads.tables before T holds in
    let now = c.in_ok-moment.ensures.found before T holds in
    subst (Appends _ _)
    (sym (text_without c.args.form (status_faults T) c.in_ok-found.found (c.in_ok-found.ensures.found honest T still now)
    (λ both. cc (c.says_none.ensures.1 both, c.if-says_none.false)))) (c.in_ok-found.ensures.printed honest T still now)
