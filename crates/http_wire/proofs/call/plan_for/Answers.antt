use Rattle.std.proofs.Common.{sym, ◌∙◌}
use Rattle.http_routes.specs.Request.{IsPlace, IsServed}
use Rattle.http_routes.specs.declared.request.Place.TheVariants as place
use Rattle.http_wire.specs.Spelled.{unserved, ill_framed, too_large}
use Rattle.http_wire.proofs.call.plan_for.Goals as goal

pub returns-in-Unserved : goal.returns-in-Unserved
returns-in-Unserved c = λ rest.
    let p : IsPlace c.args.method.now c.args.path.now (place.Unserved c.in-Unserved.why) = rw c.in-Unserved.is at c.in_ok-why.ensures in
    unserved c.in-Unserved.why p.0 p.1

pub returns-in-Malformed : goal.returns-in-Malformed
returns-in-Malformed c =
    let s : IsServed c.args.method.now c.args.path.now c.in-Served.resource = rw c.in-Served.is at c.in_ok-why.ensures in
    rw (c.refused.ensures, c.requires.index) (λ rest. ill_framed c.in-Served.resource s (sym c.framing_for.ensures ∙ c.in-Malformed.is))

pub returns-in-TooLarge : goal.returns-in-TooLarge
returns-in-TooLarge c =
    let s : IsServed c.args.method.now c.args.path.now c.in-Served.resource = rw c.in-Served.is at c.in_ok-why.ensures in
    rw (c.refused-in-TooLarge.ensures, c.requires.index) (λ rest. too_large c.in-Served.resource s (sym c.framing_for.ensures ∙ c.in-TooLarge.is))
