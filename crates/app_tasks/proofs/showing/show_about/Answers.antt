use Rattle.std.proofs.Common.{None}
use Rattle.app_tasks.proofs.Looked.{looks_by, shown_by}
use Rattle.app_tasks.proofs.showing.show_about.Goals as goal

pub returns-clause-shows : goal.returns-clause-shows
returns-clause-shows g c =
    (_, shown_by g.K.Kept.sight _ _ c.tell_about-about.result c.ended.result c.ended.ensures _ c.tell_about-about.ensures.printed)

pub returns-clause-looks : goal.returns-clause-looks
returns-clause-looks g c = looks_by g.K.Kept.sight _ _ c.tell_about-about.result c.ended.result c.ended.ensures c.tell_about-about.ensures.reads

pub returns-in_default-clause-shows : goal.returns-in_default-clause-shows
returns-in_default-clause-shows g c = (record { now = None; log = 0 }, λ h T has. tt)
