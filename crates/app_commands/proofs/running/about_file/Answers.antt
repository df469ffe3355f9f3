use Rattle.std.proofs.Common.{inl, inr, refl}
use Rattle.app_commands.proofs.running.about_file.Goals as goal

pub returns-in-Err : goal.returns-in-Err
returns-in-Err g c = inl (c.in-Err.fault, c.in-Err.ensures, refl, (refl, refl))

pub returns : goal.returns
returns g c = inr (_, c.run_over_file.ensures)
