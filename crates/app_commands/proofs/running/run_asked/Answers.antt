use Rattle.app_commands.proofs.Commands.{as_synced}
use Rattle.app_commands.proofs.running.run_asked.Goals as goal

pub returns-in-Once-clause-ends : goal.returns-in-Once-clause-ends
returns-in-Once-clause-ends g c = as_synced _ _ _ _ _ c.syncs_of.ensures c.in-Once.is c.run_from.ensures.ends

pub returns-in-Twice-clause-ends : goal.returns-in-Twice-clause-ends
returns-in-Twice-clause-ends g c = as_synced _ _ _ _ _ c.syncs_of.ensures c.in-Twice.is c.run_from-in-Twice.ensures.ends
