use Rattle.app_commands.proofs.Small.{at_most_three}
use Rattle.app_commands.proofs.running.run_from.Goals as goal

pub returns : goal.returns
returns g c = record {
  small = at_most_three _ _ _ _ _ c.args.asked.command c.run_command-status.result.0 c.run_command-status.result.1 c.run_command-status.ensures;
  ends = (c.run_command-status.result.1, c.run_command-status.ensures);
}
