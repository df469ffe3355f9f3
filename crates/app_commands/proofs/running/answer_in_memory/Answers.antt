use Rattle.app_commands.proofs.Commands.{no_policy}
use Rattle.app_commands.proofs.running.answer_in_memory.Goals as goal

pub returns-in_err-default_policy : goal.returns-in_err-default_policy
returns-in_err-default_policy g c =
    no_policy (g.T.Task.does c.args.task) _ c.in_err-default_policy.field-0.0 c.from_residual.result c.in_err-default_policy.ensures.failed
    c.from_residual.ensures.1
