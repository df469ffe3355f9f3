use Rattle.std.proofs.Common.{Err, ap, inl, inr, refl}
use Rattle.app_tasks.specs.declared.fault.Fault.TheVariants as fault
use Rattle.app_commands.proofs.running.revoke_over.Goals as goal

pub returns-in-Err : goal.returns-in-Err
returns-in-Err g c = inl (ap (λ why. Err (fault.Serve why)) c.in-Err.ensures.failed, (refl, refl))

pub returns : goal.returns
returns g c = inr (c.in-Ok.at, c.run_over_file.ensures)
