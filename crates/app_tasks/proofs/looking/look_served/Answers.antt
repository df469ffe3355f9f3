use Rattle.std.proofs.Common.{inr}
use Rattle.app_tasks.proofs.looking.look_served.Goals as goal

pub returns-in-Ok : goal.returns-in-Ok
returns-in-Ok g c = inr c.look.ensures
