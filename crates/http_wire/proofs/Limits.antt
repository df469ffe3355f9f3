-- How many bytes of a body are taken at most.
use Rattle.std.proofs.Common.{◌≡◌, ◌≤◌, ℕ, Bool, true, false, List, [], ◌∷◌, Option, Some, None, refl, arith, ap, sym}
use Rattle.std.specs.Prelude.{nat_le, codes, if◌then◌else◌}
use Rattle.std.proofs.lemmas.Bool.{leb-true}
use Rattle.http_routes.specs.{Routes.methods_of, declared.routes.OfficeResource.OfficeResource, declared.routes.Resource.Resource}
use Rattle.http_routes.specs.declared.routes.OfficeResource.TheVariants as office
use Rattle.http_routes.specs.declared.routes.Resource.TheVariants as resource
use Rattle.http_wire.specs.Framing.{framing, framing_by, framing_for, is_posted, length_in, limit_of, values_of}
use Rattle.http_wire.specs.declared.body.Framing.{Framing}
use Rattle.http_wire.specs.declared.body.Framing.TheVariants as frame
use Rattle.desk_model.specs.Limits.{longest_body}

-- the bytes that are taken
abbrev bytes_of : Framing → ℕ
bytes_of (frame.Takes n) = n
bytes_of frame.Malformed = 0
bytes_of frame.TooLarge = 0

-- of one length
one_within : (n limit : ℕ) (b : Bool) → nat_le n limit ≡ b → bytes_of (if b then frame.Takes n else frame.TooLarge) ≤ limit
one_within n limit true e = leb-true n limit e
one_within n limit false e = omega arith

by_within : (o : Option ℕ) (limit : ℕ) → bytes_of (framing_by o limit) ≤ limit
by_within None limit = omega arith
by_within (Some n) limit = one_within n limit (nat_le n limit) refl

-- of the values of the two fields
framing_within : (encodings lengths : List (List ℕ)) (limit : ℕ) → bytes_of (framing encodings lengths limit) ≤ limit
framing_within [] [] limit = omega arith
framing_within [] (text ∷ []) limit = by_within (length_in text) limit
framing_within [] (text ∷ more ∷ rest) limit = omega arith
framing_within (encoding ∷ rest) lengths limit = omega arith

-- no limit is greater
office_limit : (o : OfficeResource) → limit_of (resource.Office o) ≤ longest_body
office_limit (office.Key n) = omega arith
office_limit office.ChallengeWork = omega arith
office_limit office.OrderWork = omega arith
office_limit (office.Report n) = omega arith
office_limit (office.Certify n) = omega arith
office_limit (office.FailOrder n) = omega arith
office_limit (office.RevokeAuthz n) = omega arith
office_limit (office.RevokeAccount n) = omega arith
office_limit office.Page = omega arith
office_limit office.Look = omega arith
office_limit office.Metrics = omega arith
office_limit office.Backup = omega arith

limit_within : (r : Resource) → limit_of r ≤ longest_body
limit_within resource.Directory = omega arith
limit_within resource.NewNonce = omega arith
limit_within (resource.Signed t) = omega arith
limit_within (resource.Office o) = office_limit o

posted_within : (r : Resource) (encodings lengths : List (List ℕ)) (b : Bool)
    → bytes_of (if b then framing encodings lengths (limit_of r) else frame.Takes 0) ≤ longest_body
posted_within r encodings lengths true = omega (arith, framing_within encodings lengths (limit_of r), limit_within r)
posted_within r encodings lengths false = omega arith

-- of a request to a resource
pub body_within : (r : Resource) (fields : List (List ℕ × List ℕ)) (n : ℕ) → framing_for r fields ≡ frame.Takes n → n ≤ longest_body
body_within r fields n e =
    let same : n ≡ bytes_of (framing_for r fields) = sym (ap (λ f. bytes_of f) e) in
    omega (
      arith,
      same,
      posted_within r (values_of (codes "transfer-encoding") fields) (values_of (codes "content-length") fields) (is_posted (methods_of r)),
    )
