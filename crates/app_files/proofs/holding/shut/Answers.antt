use Rattle.std.proofs.Common.{subst}
use Rattle.app_files.specs.Endings.{IsLeft}
use Rattle.app_files.proofs.holding.shut.Goals as goal

pub returns-in-Ok : goal.returns-in-Ok
returns-in-Ok g c = subst (λ how. IsLeft c.args.store how c.close-closed.result.1) c.in-Ok.is c.close-closed.ensures

pub returns-in-Err : goal.returns-in-Err
returns-in-Err g c = subst (λ how. IsLeft c.args.store how c.close-closed.result.1) c.in-Err.is c.close-closed.ensures
