use Rattle.app_tasks.proofs.Replied.{served}
use Rattle.app_tasks.proofs.asking.revoke_served.Goals as goal

pub returns : goal.returns
returns g c = served c.args.target c.ask-heard.result _ _ _ c.ask-heard.ensures c.tell_reply.ensures
