use Rattle.std.proofs.lemmas.Result.{on_ok_weaker}
use Rattle.app_tasks.proofs.Sent.{sends_both}
use Rattle.app_tasks.proofs.sending.send_both.Goals as goal

pub returns : goal.returns
returns g c = on_ok_weaker c.send_whole-2.result (sends_both c.in_ok-send_sizes.ensures c.in_ok-send_whole.ensures) c.send_whole-2.ensures
