use Rattle.app_commands.proofs.running.run_command.Goals as goal

pub returns : goal.returns
returns g c = (c.try_command-how.result.0, c.try_command-how.ensures, c.exit_status-status.ensures)
