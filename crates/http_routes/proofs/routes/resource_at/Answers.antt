use Rattle.std.proofs.Common.{Some, ap, sym, ◌∙◌}
use Rattle.http_routes.specs.Routes.{IsResourceAt}
use Rattle.http_routes.proofs.Resources.{none_found, other_found, one_resource}
use Rattle.http_routes.proofs.routes.resource_at.Goals as goal

pub returns-in_default-clause-there : goal.returns-in_default-clause-there
returns-in_default-clause-there c = none_found c.args.path.now (sym c.in_ok-route.ensures ∙ c.in_default.is)

pub returns-in_default-clause-one : goal.returns-in_default-clause-one
returns-in_default-clause-one c = λ r h. absurd (none_found c.args.path.now (sym c.in_ok-route.ensures ∙ c.in_default.is) r h)

pub returns-in-Some-number_at-clause-one : goal.returns-in-Some-number_at-clause-one
returns-in-Some-number_at-clause-one c = λ r h.
    let there : IsResourceAt c.args.path.now c.resource_of.result =
    record { route = c.in-Some.route; number = c.in-Some-number_at.number; text = c.in-Some-number_at.ensures; leads = c.resource_of.ensures } in
    ap Some (one_resource c.args.path.now c.resource_of.result r there h)

pub returns-in-None-clause-there : goal.returns-in-None-clause-there
returns-in-None-clause-there c = other_found c.args.path.now c.in-Some.route (sym c.in_ok-route.ensures ∙ c.in-Some.is) c.in-None.ensures

pub returns-in-None-clause-one : goal.returns-in-None-clause-one
returns-in-None-clause-one c = λ r h.
    absurd (other_found c.args.path.now c.in-Some.route (sym c.in_ok-route.ensures ∙ c.in-Some.is) c.in-None.ensures r h)
