-- What a payload says, by the route that reads it. None: it hasn't the form that the route reads.
use Rattle.std.specs.Prelude.{ℕ, List, [], ◌∷◌, Bool, false, ◌||◌, Option, Some, None, is_some, if◌then◌else◌, bytes_eq, codes}
use Rattle.std.specs.Prelude.{option_map, option_and_then, unwrap_or}
use Rattle.serde_json.specs.{Data.Data, Data.Items, Data.no_items, Data.item, Find.get, Find.as_str, Find.as_object, Find.as_array, Find.as_bool, Read.read}
use Rattle.desk_model.specs.Keys.{canonical_text, key_in, text_member, text_members}
pub use Rattle.desk_model.specs.declared.payload.NewAccount.{NewAccount}
pub use Rattle.desk_model.specs.declared.payload.AccountChange.{AccountChange}
pub use Rattle.desk_model.specs.declared.payload.AccountChange.TheVariants as account
pub use Rattle.desk_model.specs.declared.payload.KeyChange.{KeyChange}
pub use Rattle.desk_model.specs.declared.payload.AuthorizationChange.{AuthorizationChange}
pub use Rattle.desk_model.specs.declared.payload.AuthorizationChange.TheVariants as authz
pub use Rattle.desk_model.specs.declared.payload.ChallengeChange.{ChallengeChange}
pub use Rattle.desk_model.specs.declared.payload.ChallengeChange.TheVariants as chall
pub use Rattle.desk_model.specs.declared.payload.Identifier.{Identifier}

abbrev pub is_object : Data → Bool
is_object d = is_some (as_object d)

abbrev pub if_object : Data → Option Data
if_object d = if is_object d then Some d else None

-- the object that the text holds
unfoldable pub object_in : List ℕ → Option Data
object_in text = option_and_then if_object (read text)

abbrev pub and_each : {X : Type 0} → Option X → Option (List X) → Option (List X)
and_each None rest = None
and_each (Some x) None = None
and_each (Some x) (Some xs) = Some (x ∷ xs)

-- the items, each in this form: None where one has another
abbrev pub each_in : {X : Type 0} → (Data → Option X) → Items → Option (List X)
each_in form no_items = Some []
each_in form (item d ds) = and_each (form d) (each_in form ds)

-- a list of texts
abbrev pub texts_in : Data → Option (List (List ℕ))
texts_in d = option_and_then (each_in as_str) (as_array d)

-- a member that may be left out: None where it is there in another form
abbrev pub optional : {X : Type 0} → (Data → Option X) → Option Data → Option (Option X)
optional form None = Some None
optional form (Some d) = option_map Some (form d)

-- ---- newAccount (RFC 8555, 7.3)

abbrev pub new_account_by : Option (Option (List (List ℕ))) → Option (Option Bool) → Option NewAccount
new_account_by (Some contacts) (Some only) = Some (record { contacts = unwrap_or contacts []; only_existing = unwrap_or only false })
new_account_by _ _ = None

abbrev pub new_account_in : Data → Option NewAccount
new_account_in d = new_account_by (optional texts_in (get (codes "contact") d)) (optional as_bool (get (codes "onlyReturnExisting") d))

abbrev pub new_account : List ℕ → Option NewAccount
new_account payload = option_and_then new_account_in (object_in payload)

-- ---- accounts (RFC 8555, 7.3.2, 7.3.6)

abbrev pub is_deactivated_text : Option (List ℕ) → Bool
is_deactivated_text None = false
is_deactivated_text (Some s) = bytes_eq s (codes "deactivated")

abbrev pub says_deactivated : Data → Bool
says_deactivated d = is_deactivated_text (text_member (codes "status") d)

abbrev pub account_change_in : Data → Option AccountChange
account_change_in d =
    if says_deactivated d then Some account.Deactivate
    else option_map account.Update (optional texts_in (get (codes "contact") d))

abbrev pub account_change : List ℕ → Option AccountChange
account_change [] = Some account.Read
account_change (b ∷ bs) = option_and_then account_change_in (object_in (b ∷ bs))

-- ---- key change (RFC 8555, 7.3.5)

-- the canonical text of the key that the value spells, if it spells one
abbrev pub key_text_in : Data → Option (List ℕ)
key_text_in d = option_map canonical_text (key_in d)

abbrev pub object_member : List ℕ → Data → Option Data
object_member name d = option_and_then if_object (get name d)

abbrev pub key_change_by : Option (List ℕ) → Option Data → Option Data → Option KeyChange
key_change_by (Some account) (Some next) (Some old) =
    Some (record { account = account; new_key = key_text_in next; old_key = key_text_in old })
key_change_by _ _ _ = None

-- a URL and two objects, each of which may be a key
abbrev pub key_change_in : Data → Option KeyChange
key_change_in d = key_change_by (text_member (codes "account") d) (object_member (codes "newKey") d) (object_member (codes "oldKey") d)

abbrev pub key_change : List ℕ → Option KeyChange
key_change payload = option_and_then key_change_in (object_in payload)

-- ---- authorizations and challenges (RFC 8555, 7.5)

abbrev pub authorization_change_in : Data → Option AuthorizationChange
authorization_change_in d = if says_deactivated d then Some authz.Deactivate else None

abbrev pub authorization_change : List ℕ → Option AuthorizationChange
authorization_change [] = Some authz.Read
authorization_change (b ∷ bs) = option_and_then authorization_change_in (object_in (b ∷ bs))

abbrev pub challenge_change : List ℕ → Option ChallengeChange
challenge_change [] = Some chall.Read
challenge_change (b ∷ bs) = option_map (λ d. chall.Answer) (object_in (b ∷ bs))

-- ---- orders (RFC 8555, 7.4)

-- an identifier is an object with two texts
abbrev pub identifier_in : Data → Option Identifier
identifier_in d = option_map (λ p. record { kind = p.0; value = p.1 }) (text_members (codes "type") (codes "value") d)

-- an order with dates of its own is malformed, since the desk can't keep them
abbrev pub new_order_in : Data → Option (List Identifier)
new_order_in d =
    if is_some (get (codes "notBefore") d) || is_some (get (codes "notAfter") d) then None
    else option_and_then (each_in identifier_in) (option_and_then as_array (get (codes "identifiers") d))

abbrev pub new_order : List ℕ → Option (List Identifier)
new_order payload = option_and_then new_order_in (object_in payload)

-- the text of a CSR
abbrev pub csr_text_in : Data → Option (List ℕ)
csr_text_in d = text_member (codes "csr") d

abbrev pub finalize : List ℕ → Option (List ℕ)
finalize payload = option_and_then csr_text_in (object_in payload)
