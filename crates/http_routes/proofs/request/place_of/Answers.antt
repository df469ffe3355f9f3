use Rattle.std.proofs.Common.{rules, ◌≡◌, Some}
use Rattle.http_routes.specs.{Request.IsServed, declared.routes.Resource.Resource}
use Rattle.http_routes.proofs.request.place_of.Goals.{in_default-via-in-Some+else-serves, in_default-via-in_default}
use Rattle.http_routes.proofs.request.place_of.Goals as goal

pub returns-in_default : goal.returns-in_default
returns-in_default c =
    let none : (r : Resource) → IsServed c.args.method.now c.args.path.now r → ⊥ = λ r s.
    let one : c.in_ok-found.found ≡ Some r = c.in_ok-found.ensures.one r s.there in
    let served = s.serves in
    elim c.in_default.branch [ in_default-via-in-Some+else-serves w ↦ search rules | in_default-via-in_default w ↦ search rules ] in
    let same : c.in_default.found ≡ c.in_ok-found.found =
    elim c.in_default.branch [ in_default-via-in-Some+else-serves w ↦ search rules | in_default-via-in_default w ↦ search rules ] in
    (none, c.unserved_at.ensures c.args.path.now c.requires (rw same c.in_ok-found.ensures.there))
