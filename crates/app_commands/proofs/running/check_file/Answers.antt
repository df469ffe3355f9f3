use Rattle.std.proofs.Common.{None}
use Rattle.app_commands.proofs.Commands.{as_check}
use Rattle.app_commands.proofs.running.check_file.Goals as goal

pub returns : goal.returns
returns g c = as_check _ _ None _ _ c.args.json c.form.result _ _ c.form.ensures c.run_over_file.ensures
