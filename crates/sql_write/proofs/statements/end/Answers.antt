use Rattle.std.proofs.{Common.IsOk, Common.inr, Common.refl, Common.subst, Common.sym}
use Rattle.sql_write.proofs.statements.end.Goals as goal

pub returns-in-Err-clause-cause : goal.returns-in-Err-clause-cause
returns-in-Err-clause-cause g c =
    inr (subst IsOk (sym c.in_ok-done.was) refl, record { error = c.in-Err.error; is = refl; fails = c.in-Err.ensures.err })
