use Rattle.std.proofs.Common.{drop-cons, rules}
use Rattle.store_api.proofs.WaitingRows.{joined_ascend}
use Rattle.store_api.proofs.waiting.nest_each.Goals as goal

pub loop-found-preserved : goal.loop-found-preserved
loop-found-preserved c up = search (rules, drop-cons, joined_ascend)
