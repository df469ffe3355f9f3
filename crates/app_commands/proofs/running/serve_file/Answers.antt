use Rattle.app_commands.proofs.running.serve_file.Goals as goal

pub returns : goal.returns
returns g c = (_, c.run_over_file.ensures)
