-- What an insertion into the router leaves.
use Rattle.std.proofs.Common.{◌≡◌, List, ℕ, subst, arith}
use Rattle.std.specs.Prelude.{Result, Ok}
use Rattle.matchit.specs.{Rows.RowsOf, declared.error.InsertError.InsertError, Router.RouteOf, Router.InsertsRead, Route.Scan, Route.parse_route}
use Rattle.http_routes.specs.{Routes.text_of, declared.routes.Route.Route, Router.on_scan, Router.add_route}

-- what an insertion leaves of a route's text that was read
on_scan_inserted : (scan : Result Scan InsertError) (v : Route) (old new : RowsOf (RouteOf Route)) (u : Unit {0})
    → InsertsRead scan v old new (Ok u) → new ≡ on_scan scan v old
on_scan_inserted scan v old new u h = grind arith

-- a route that was inserted by its text is in its place
pub inserted : (text : List ℕ) (v : Route) (old new : RowsOf (RouteOf Route)) (u : Unit {0}) → text ≡ text_of v
    → InsertsRead (parse_route text) v old new (Ok u) → new ≡ add_route old v
unfolding add_route
inserted text v old new u is h =
    on_scan_inserted (parse_route (text_of v)) v old new u (subst (λ (t : List ℕ). InsertsRead (parse_route t) v old new (Ok u)) is h)
