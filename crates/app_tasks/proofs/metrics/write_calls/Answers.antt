use Rattle.std.proofs.Common.{None}
use Rattle.app_page.proofs.Writing.{writes_each, writes_next, writes_nothing}
use Rattle.app_tasks.specs.Metrics.{calls_text, counted_routes}
use Rattle.app_tasks.proofs.metrics.write_calls.Goals as goal

pub loop-route-init : goal.loop-route-init
unfolding counted_routes
loop-route-init g c = writes_nothing (calls_text c.args.served.now) (g.W.Write.contents c.args.out.now) counted_routes

pub loop-route-preserved : goal.loop-route-preserved
unfolding counted_routes
loop-route-preserved g c =
    writes_next (calls_text c.args.served.now) _ _ _ counted_routes c.loop-route.route-index None c.loop-route-test.true c.loop-route.invariant
    c.in_ok-write_calls_of.ensures

pub returns : goal.returns
unfolding counted_routes
returns g c = writes_each (calls_text c.args.served.now) _ _ counted_routes c.loop-route.route-index c.loop-route-test.false c.loop-route.invariant
