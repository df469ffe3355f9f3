use Rattle.app_commands.proofs.Commands.{met_ok}
use Rattle.app_commands.proofs.running.list_asked.Goals as goal

pub returns-in-Ok : goal.returns-in-Ok
returns-in-Ok g c = met_ok c.args.list c.in-Ok.list _ _ c.in-Ok.is c.list_over.ensures
