-- What a reply says of a revocation that a desk which is served was asked for.
use Rattle.std.specs.Prelude.{ℕ, ◌++◌, ◌&&◌, Bool, false, List, [], ◌∷◌, Option, Some, None, bytes_eq, codes, decimal, drop, if◌then◌else◌, is_some, length, nat_eq, nat_lt}
use Rattle.std.specs.Prelude.{option_and_then}
use Rattle.std.specs.{List.ends_with, List.starts_with, Str.is_utf8}
use Rattle.serde_json.specs.{Data.Data, Find.get, Read.read}
use Rattle.app_words.specs.declared.command.Revocation.{Revocation}
use Rattle.app_words.specs.declared.command.Revocation.TheVariants as revocation
use Rattle.desk_model.specs.{Keys.text_member, Refusals.refusal_of, declared.refusal.Refusal.Refusal}
use Rattle.desk_model.specs.declared.refusal.Refusal.TheVariants as refusal

-- what stands behind the first empty line of a reply, if it has one (RFC 9112, 2.1)
abbrev pub body_of : List ℕ → List ℕ
body_of [] = []
body_of (c ∷ rest) = if starts_with nat_eq (c ∷ rest) (codes "\r\n\r\n") then drop 4 (c ∷ rest) else body_of rest

-- the JSON that a body is
abbrev pub document_in : List ℕ → Option Data
document_in body = if is_utf8 body then read body else None

-- a text is there, and is this one; and ends so
abbrev pub is_text : Option (List ℕ) → List ℕ → Bool
is_text (Some found) text = bytes_eq found text
is_text None text = false

abbrev pub has_ending : Option (List ℕ) → List ℕ → Bool
has_ending (Some found) text = ends_with nat_eq found text
has_ending None text = false

-- the URL of the orders of an account ends so
abbrev pub orders_path : ℕ → List ℕ
orders_path number = codes "/account/" ++ (decimal number ++ codes "/orders")

-- an identifier is there, and is a DNS name (RFC 8555, 7.1.4 and 9.7.7)
abbrev pub is_dns_name : Option Data → Bool
is_dns_name (Some d) = is_text (text_member (codes "type") d) (codes "dns") && is_some (text_member (codes "value") d)
is_dns_name None = false

-- the document has what that of an authorization has (RFC 8555, 7.1.4), which does not have its number
abbrev pub is_authorization : Data → Bool
is_authorization d = is_some (text_member (codes "expires") d) && is_dns_name (get (codes "identifier") d)

-- the document is that of what is to be revoked, as far as it says
abbrev pub is_of : Revocation → Data → Bool
is_of (revocation.Account number) d = has_ending (text_member (codes "orders") d) (orders_path number)
is_of (revocation.Authorization number) d = is_authorization d

-- and that is revoked
abbrev pub is_revoked_in : Revocation → Data → Bool
is_revoked_in what d = is_text (text_member (codes "status") d) (codes "revoked") && is_of what d

-- the document is that of a refusal
abbrev pub refusal_in : Refusal → Data → Option (Option Refusal)
refusal_in why d = if is_text (text_member (codes "detail") d) (refusal_of why).detail then Some (Some why) else None

abbrev pub begins : List ℕ → List ℕ → Bool
begins reply text = starts_with nat_eq reply text

-- what a reply with a document says, by its status (RFC 9112, 4): done, or that there is nothing, that it does not fit the records, or that the
-- desk could not act; None: none of these
abbrev pub outcome_in : Revocation → (reply : List ℕ) → Data → Option (Option Refusal)
outcome_in what reply d =
    if begins reply (codes "HTTP/1.1 200 ") then (if is_revoked_in what d then Some None else None)
    else (if begins reply (codes "HTTP/1.1 404 ") then refusal_in refusal.NotFound d
    else (if begins reply (codes "HTTP/1.1 409 ") then refusal_in refusal.Conflict d
    else (if begins reply (codes "HTTP/1.1 500 ") then refusal_in refusal.ServerInternal d
    else None)))

-- what a reply of no more bytes than one of a desk says
abbrev pub outcome_within : Revocation → List ℕ → Option (Option Refusal)
outcome_within what reply = option_and_then (outcome_in what reply) (document_in (body_of reply))

-- the longest reply of a desk
abbrev pub longest_reply : ℕ
longest_reply = 32768

-- what a reply says
abbrev pub outcome_of : Revocation → List ℕ → Option (Option Refusal)
outcome_of what reply = if nat_lt longest_reply (length reply) then None else outcome_within what reply
