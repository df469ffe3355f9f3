use Rattle.std.proofs.Common.{inr, take}
use Rattle.app_tasks.proofs.asking.ask.Goals as goal

pub returns-in-Ok-ask_by : goal.returns-in-Ok-ask_by
returns-in-Ok-ask_by c = inr (take c.in-Ok-ask_by.count c.ask_by.new.reply, c.hear.ensures)
