use Rattle.http_routes.specs.{Request.not_here, Request.not_served, Routes.IsResourceAt, declared.routes.Resource.Resource}
use Rattle.http_routes.proofs.request.unserved_at.Goals as goal

pub returns-in-Some : goal.returns-in-Some
returns-in-Some c path link leads =
    let there : IsResourceAt path c.in-Some.resource = rw c.in-Some.is at leads in
    rw (link, c.methods_of.ensures) (not_served c.in-Some.resource there)

pub returns-in-None : goal.returns-in-None
returns-in-None c path link leads =
    let none : (r : Resource) → IsResourceAt path r → ⊥ = rw c.in-None.is at leads in
    rw link (not_here none)
