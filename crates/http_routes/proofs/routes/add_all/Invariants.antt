use Rattle.std.proofs.Common.{◌≡◌, drop}
use Rattle.http_routes.specs.Router.{desk_routes, with_routes}
use Rattle.http_routes.proofs.routes.add_all.Given as goal

abbrev pub invariant-loop-route : goal.invariant-loop-route
invariant-loop-route l = with_routes l.router (drop l.route-index l.route-items) ≡ desk_routes
