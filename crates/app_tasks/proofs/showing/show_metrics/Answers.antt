use Rattle.std.proofs.Common.{None}
use Rattle.app_tasks.specs.{Totals.no_totals, declared.snapshot.Reading.Reading}
use Rattle.app_tasks.proofs.Looked.{looks_by, shown_by}
use Rattle.app_tasks.proofs.showing.show_metrics.Goals as goal

pub returns-clause-shows : goal.returns-clause-shows
returns-clause-shows g c =
    (_, shown_by g.K.Kept.sight _ _ c.tell_metrics-told.result c.ended.result c.ended.ensures _ c.tell_metrics-told.ensures.printed)

pub returns-clause-looks : goal.returns-clause-looks
returns-clause-looks g c = looks_by g.K.Kept.sight _ _ c.tell_metrics-told.result c.ended.result c.ended.ensures c.tell_metrics-told.ensures.reads

-- no metrics were shown, beside whatever
unread : Reading
unread = record { served = no_totals; beside = record { now = None; log = 0 }; file = 0 }

pub returns-in_default-clause-shows : goal.returns-in_default-clause-shows
returns-in_default-clause-shows g c = (unread, λ h T has. tt)

pub returns-in_default-2-clause-shows : goal.returns-in_default-2-clause-shows
returns-in_default-2-clause-shows g c = (unread, λ h T has. tt)
