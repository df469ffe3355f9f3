use Rattle.std.proofs.Common.{Err, refl}
use Rattle.app_tasks.specs.Deeds.{adopted, clocked, clockless, unadopted}
use Rattle.app_tasks.proofs.answering.ServeConnectionsTask.run.Goals as goal

pub returns-in-Err : goal.returns-in-Err
returns-in-Err g c = clockless c.in-Err.fault c.in-Err.ensures.reads refl

pub returns-in-Err-adopt : goal.returns-in-Err-adopt
returns-in-Err-adopt g c =
    clocked (Err c.in-Err-adopt.fault) c.in-Ok.clock c.clock_of.new.store c.in-Ok.ensures.reads c.in-Ok.ensures.found
    (unadopted c.in-Err-adopt.fault c.in-Err-adopt.ensures refl)

pub returns : goal.returns
returns g c =
    clocked c.start-outcome.result c.in-Ok.clock c.clock_of.new.store c.in-Ok.ensures.reads c.in-Ok.ensures.found
    (adopted c.start-outcome.result c.in-Ok-adopt.desk c.start-outcome.new.desk c.in-Ok-adopt.ensures c.start-outcome.ensures c.into_store.ensures)
