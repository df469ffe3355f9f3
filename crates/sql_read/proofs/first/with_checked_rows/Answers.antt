use Rattle.std.proofs.Common.{refl}
use Rattle.sql_read.proofs.FirstChecked.{reads_ok}
use Rattle.sql_read.proofs.first.with_checked_rows.Goals as goal

pub returns-in-Ok-true : goal.returns-in-Ok-true
returns-in-Ok-true g c =
    let checks = rw c.in-Ok-true.field-0-test at c.in-Ok-true.ensures in
    reads_ok g.S.Store (λ clean. record { same = refl; shows = checks.answer clean refl }) checks.unchanged checks.asks

pub returns-in-Ok-false : goal.returns-in-Ok-false
returns-in-Ok-false g c =
    let checks = rw c.in-Ok-false.field-0-test at c.in-Ok-false.ensures in
    reads_ok g.S.Store (λ clean rows shows. checks.none clean refl c.args.meta rows shows refl) checks.unchanged checks.asks
