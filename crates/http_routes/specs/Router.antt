-- The routes of the desk, as a router keeps them.
use Rattle.std.specs.Prelude.{List, [], ◌∷◌, Result, Ok, Err}
use Rattle.matchit.specs.{Rows.RowsOf, Order.placed, declared.error.InsertError.InsertError, Router.RouteOf, Router.route_from, Route.parse_route, Route.Scan}
use Rattle.http_routes.specs.{Routes.text_of, declared.routes.Route.Route}
use Rattle.http_routes.specs.declared.routes.Route.TheVariants as route

-- what a router keeps for a route
abbrev pub value_of : RouteOf Route → Route
value_of r = r.value

-- ---- the router of the desk

-- a route's text read, in its place among the rows of a router
abbrev pub on_scan : Result Scan InsertError → Route → RowsOf (RouteOf Route) → RowsOf (RouteOf Route)
on_scan (Ok s) r rows = placed (s.pattern, route_from s r) rows
on_scan (Err e) r rows = rows

-- the rows with one route more
unfoldable pub add_route : RowsOf (RouteOf Route) → Route → RowsOf (RouteOf Route)
add_route rows r = on_scan (parse_route (text_of r)) r rows

-- the rows with these routes more, one after the other
abbrev pub with_routes : RowsOf (RouteOf Route) → List Route → RowsOf (RouteOf Route)
with_routes rows [] = rows
with_routes rows (r ∷ rest) = with_routes (add_route rows r) rest

-- the routes of the directory and of what is made (RFC 8555, 7.1)
abbrev pub first_routes : RowsOf (RouteOf Route)
first_routes = add_route (add_route (add_route (add_route (add_route [] route.Directory) route.NewNonce) route.NewAccount) route.KeyChange) route.NewOrder

-- and of the objects of clients
abbrev pub client_routes : RowsOf (RouteOf Route)
client_routes =
    add_route (add_route (add_route (add_route (add_route (add_route (add_route first_routes
    route.Account) route.Orders) route.Order) route.Finalize) route.Cert) route.Authz) route.Chall

-- and of what the validator and the signing office ask
abbrev pub asked_routes : RowsOf (RouteOf Route)
asked_routes =
    add_route (add_route (add_route (add_route (add_route (add_route client_routes
    route.Key) route.ChallengeWork) route.OrderWork) route.Report) route.Certify) route.FailOrder

-- all routes of the desk: and of what the operator ends, and is shown
abbrev pub desk_routes : RowsOf (RouteOf Route)
desk_routes =
    add_route (add_route (add_route (add_route (add_route (add_route asked_routes
    route.RevokeAuthz) route.RevokeAccount) route.Page) route.Look) route.Metrics) route.Backup
