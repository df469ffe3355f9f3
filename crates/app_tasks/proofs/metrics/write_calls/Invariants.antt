use Rattle.std.proofs.Common.{drop}
use Rattle.app_page.proofs.Writing.{WritesUpTo}
use Rattle.app_tasks.specs.Metrics.{calls_text}
use Rattle.app_tasks.proofs.metrics.write_calls.Given as goal

abbrev pub invariant-loop-route : goal.invariant-loop-route
invariant-loop-route g l =
    WritesUpTo (calls_text l.served) (g.W.Write.contents l.fn.out) (g.W.Write.contents l.out) l.route-items (drop l.route-index l.route-items)
