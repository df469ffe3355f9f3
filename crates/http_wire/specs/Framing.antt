-- How long the body behind a head is, by its fields (RFC 9112, 6).
use Rattle.std.specs.Prelude.{◌≡◌, ◌≤◌, ◌-◌, ◌^◌, ◌&&◌, ℕ, min, Bool, true, false, nat_lt, nat_le, List, [], ◌∷◌, map, length, Option, Some, None}
use Rattle.std.specs.Prelude.{if◌then◌else◌, codes, bytes_eq}
use Rattle.std.specs.{Char.digit_value, Char.to_ascii_lowercase, List.filter, List.list_all, Str.Parse.digits_value}
use Rattle.desk_model.specs.{declared.reply.Allow.Allow, Limits.longest_body, Limits.longest_certificate}
use Rattle.desk_model.specs.declared.reply.Allow.TheVariants as allow
use Rattle.http_routes.specs.{Routes.methods_of, declared.routes.Resource.Resource}
use Rattle.http_routes.specs.declared.routes.OfficeResource.TheVariants as office
use Rattle.http_routes.specs.declared.routes.Resource.TheVariants as resource
use Rattle.http_wire.specs.declared.body.{Found.Found, Framing.Framing}
use Rattle.http_wire.specs.declared.body.Found.TheVariants as found
use Rattle.http_wire.specs.declared.body.Framing.TheVariants as frame

-- names of fields are the same in any case (RFC 9110, 5.1)
abbrev pub same_name : List ℕ → List ℕ → Bool
same_name name other = bytes_eq (map to_ascii_lowercase name) (map to_ascii_lowercase other)

-- the values of the fields of this name, in order
abbrev pub values_of : List ℕ → List (List ℕ × List ℕ) → List (List ℕ)
values_of name fields = map (λ f. f.1) (filter (λ f. same_name f.0 name) fields)

-- a digit of ten
abbrev pub is_digit : ℕ → Bool
is_digit c = nat_lt (digit_value c) 10

-- the number of a text of one digit or more
abbrev pub length_in : List ℕ → Option ℕ
length_in text = if nat_lt 0 (length text) && list_all is_digit text then Some (digits_value 10 text) else None

-- a number, or the greatest of 64 bits for one past it
abbrev pub saturated : ℕ → ℕ
saturated n = min n (2 ^ 64 - 1)

-- what one length says: more than the limit is too large
abbrev pub framing_by : Option ℕ → ℕ → Framing
framing_by None limit = frame.Malformed
framing_by (Some n) limit = if nat_le n limit then frame.Takes n else frame.TooLarge

-- what the values of Transfer-Encoding and of Content-Length say; a body may have so many bytes at most
abbrev pub framing : List (List ℕ) → List (List ℕ) → ℕ → Framing
framing [] [] limit = frame.Takes 0
framing [] (length ∷ []) limit = framing_by (length_in length) limit
framing [] (length ∷ more ∷ rest) limit = frame.Malformed
framing (encoding ∷ rest) lengths limit = frame.Malformed

-- the most bytes of a body
abbrev pub limit_of : Resource → ℕ
limit_of (resource.Office (office.Certify order)) = longest_certificate
limit_of _ = longest_body

-- whether a resource with these methods takes a body
abbrev pub is_posted : Allow → Bool
is_posted allow.Post = true
is_posted _ = false

-- what the fields of a request to this resource say; those of a GET or HEAD are not looked at
abbrev pub framing_for : Resource → List (List ℕ × List ℕ) → Framing
framing_for r fields =
    if is_posted (methods_of r)
    then framing (values_of (codes "transfer-encoding") fields) (values_of (codes "content-length") fields) (limit_of r)
    else frame.Takes 0

-- the values are these, as far as there is one
abbrev pub FoundIs : List (List ℕ) → Found → Type 0
FoundIs values found.Nothing = values ≡ []
FoundIs values (found.One value) = values ≡ value.now ∷ []
FoundIs values found.Many = 2 ≤ length values
