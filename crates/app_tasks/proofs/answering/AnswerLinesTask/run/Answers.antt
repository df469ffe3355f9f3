use Rattle.std.proofs.Common.{Ok, refl}
use Rattle.app_tasks.specs.Deeds.{adopted, unadopted}
use Rattle.app_tasks.proofs.Done.{lines_answered}
use Rattle.app_tasks.proofs.answering.AnswerLinesTask.run.Goals as goal

pub returns-in-Err : goal.returns-in-Err
returns-in-Err g c = unadopted c.in-Err.fault c.in-Err.ensures refl

pub returns : goal.returns
returns g c =
    let batch = c.batch-status.ensures in
    adopted (Ok c.batch-status.result) c.in-Ok.desk c.batch-status.new.desk c.in-Ok.ensures
    (lines_answered g.K.Kept.sight _ _ _ c.in-Ok.desk c.batch-status.new.desk c.batch-status.result batch.status batch.seen batch.answered
    batch.stopped) c.into_store.ensures
