use Rattle.std.proofs.Common.{refl}
use Rattle.app_tasks.specs.Deeds.{adopted, unadopted}
use Rattle.app_tasks.proofs.revoking.RevokeTask.run.Goals as goal

pub returns-in-Err : goal.returns-in-Err
returns-in-Err g c = unadopted c.in-Err.fault c.in-Err.ensures refl

pub returns : goal.returns
returns g c =
    adopted c.revoke-outcome.result c.in-Ok.desk c.revoke-outcome.new.desk c.in-Ok.ensures c.revoke-outcome.ensures c.into_store.ensures
