use Rattle.app_files.specs.Endings.{shut, unheld}
use Rattle.app_files.proofs.holding.hold_desk.Goals as goal

pub returns-in-Ok : goal.returns-in-Ok
returns-in-Ok g c = shut c.in-Ok.store _ c.in-Ok.ensures.opened c.in-Ok.ensures.shows c.shut.ensures

pub returns-in-Err : goal.returns-in-Err
returns-in-Err g c = unheld c.in-Err.unopened c.in-Err.ensures.unopened
