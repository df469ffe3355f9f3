-- The rows that a call touches, as look-ups find them, one after the other.
use Rattle.std.specs.Prelude.{ℕ, ◌-◌, max, List, [], ◌∷◌, ◌++◌, if◌then◌else◌, Option, Some, None, Ok, Err, option_and_then}
use Rattle.std.specs.List.{filter, flat_map}
use Rattle.model_laws.specs.Placing.{puts}
use Rattle.desk_model.specs.Asked.{asked_names, asks_authorizations, asks_orders}
use Rattle.desk_model.specs.{Derived.numbers_of, Payload.key_change, Tables.Tables, Touched.only_meta, Name.Name, Name.same_name, Tokens.NonceText}
use Rattle.desk_model.specs.{Tokens.nonce_in, declared.call.Ask.Ask, declared.call.Call.Call, declared.call.Target.Target, declared.objects.Nonce.Nonce}
use Rattle.desk_model.specs.{declared.rows.AccountRow.AccountRow, declared.rows.AuthorizationRow.AuthorizationRow, declared.rows.OrderRow.OrderRow}
use Rattle.desk_model.specs.declared.call.Ask.TheVariants as ask
use Rattle.desk_model.specs.declared.call.OfficeAsk.TheVariants as office
use Rattle.desk_model.specs.declared.call.Target.TheVariants as to
use Rattle.desk_model.specs.declared.status.AuthzStatus.TheVariants as authz
use Rattle.desk_model.specs.declared.status.OrderStatus.TheVariants as order
use Rattle.model_parts.specs.LookUps.{accounts_numbered, accounts_with_key, authorizations_numbered, authorizations_of, authorizations_named}
use Rattle.model_parts.specs.LookUps.{authorizations_past, nonces_before, nonces_numbered, orders_listing, orders_numbered, orders_of, orders_past, owners_of}

-- ---- what an ask names, as lists of numbers

abbrev pub of_text : Option NonceText → List ℕ
of_text None = []
of_text (Some t) = t.serial ∷ []

abbrev pub serials : Ask → List ℕ
serials (ask.Signed s) = of_text (option_and_then nonce_in s.nonce)
serials _ = []

abbrev pub keys : Ask → List (List ℕ)
keys (ask.Signed s) = elim s.key [ Err e ↦ [] | Ok own ↦ own ∷ [] ]
keys _ = []

abbrev pub of_key : Option (List ℕ) → List (List ℕ)
of_key None = []
of_key (Some key) = key ∷ []

abbrev pub target_new_keys : Target → List ℕ → List (List ℕ)
target_new_keys to.KeyChange payload = of_key (option_and_then (λ c. c.new_key) (key_change payload))
target_new_keys _ payload = []

abbrev pub new_keys : Ask → List (List ℕ)
new_keys (ask.Signed s) = target_new_keys s.target s.payload
new_keys _ = []

abbrev pub target_accounts : Target → List ℕ
target_accounts target = elim target [ to.Account k ↦ k ∷ [] | to.Orders k ↦ k ∷ [] | _ ↦ [] ]

abbrev pub account_numbers : Ask → List ℕ
account_numbers (ask.Signed s) = target_accounts s.target
account_numbers (ask.Office (office.RevokeAccount k)) = k ∷ []
account_numbers (ask.Office (office.KeyOf k)) = k ∷ []
account_numbers _ = []

abbrev pub target_order_numbers : Target → List ℕ
target_order_numbers target = elim target [ to.Order k ↦ k ∷ [] | to.Finalize k ↦ k ∷ [] | to.Cert k ↦ k ∷ [] | _ ↦ [] ]

abbrev pub order_numbers : Ask → List ℕ
order_numbers (ask.Signed s) = target_order_numbers s.target
order_numbers (ask.Office (office.Certify k bytes)) = k ∷ []
order_numbers (ask.Office (office.FailOrder k problem)) = k ∷ []
order_numbers _ = []

abbrev pub target_authorization_numbers : Target → List ℕ
target_authorization_numbers target = elim target [ to.Authz k ↦ k ∷ [] | _ ↦ [] ]

abbrev pub authorization_numbers : Ask → List ℕ
authorization_numbers (ask.Signed s) = target_authorization_numbers s.target
authorization_numbers (ask.Office (office.RevokeAuthz k)) = k ∷ []
authorization_numbers _ = []

abbrev pub target_challenge_numbers : Target → List ℕ
target_challenge_numbers target = elim target [ to.Chall k ↦ k ∷ [] | _ ↦ [] ]

abbrev pub challenge_numbers : Ask → List ℕ
challenge_numbers (ask.Signed s) = target_challenge_numbers s.target
challenge_numbers (ask.Office (office.Report k finding)) = k ∷ []
challenge_numbers _ = []

-- ---- rows that are found, each once

abbrev pub accounts_once : List AccountRow → List AccountRow
accounts_once rows = puts (λ x. x.number) rows []

abbrev pub authorizations_once : List AuthorizationRow → List AuthorizationRow
authorizations_once rows = puts (λ r. r.number) rows []

abbrev pub orders_once : List OrderRow → List OrderRow
orders_once rows = puts (λ o. o.number) rows []

-- ---- what is found, rule by rule

abbrev pub found_nonces : Tables → ℕ → Ask → List Nonce
found_nonces T m a = flat_map (nonces_numbered T) (serials a) ++ nonces_before T (m - T.meta.policy.nonce_life)

abbrev pub named_accounts : Tables → Ask → List AccountRow
named_accounts T a =
    flat_map (accounts_with_key T) (keys a)
    ++ (flat_map (accounts_with_key T) (new_keys a) ++ flat_map (accounts_numbered T) (account_numbers a))

abbrev pub named_orders : Tables → Ask → List OrderRow
named_orders T a = flat_map (orders_numbered T) (order_numbers a)

abbrev pub named_authorizations : Tables → Ask → List AuthorizationRow
named_authorizations T a =
    flat_map (authorizations_numbered T) (authorization_numbers a)
    ++ flat_map (λ c. flat_map (authorizations_numbered T) (owners_of T c)) (challenge_numbers a)

abbrev pub own_orders : Tables → Ask → List OrderRow
own_orders T a = if asks_orders a then flat_map (λ x. orders_of T x.number) (accounts_once (named_accounts T a)) else []

abbrev pub own_authorizations : Tables → Ask → List AuthorizationRow
own_authorizations T a = if asks_authorizations a then flat_map (λ x. authorizations_of T x.number) (accounts_once (named_accounts T a)) else []

abbrev pub past_orders : Tables → ℕ → List OrderRow
past_orders T m = orders_past T order.Pending m ++ (orders_past T order.Ready m ++ orders_past T order.Processing m)

abbrev pub past_authorizations : Tables → ℕ → List AuthorizationRow
past_authorizations T m = authorizations_past T authz.Pending m ++ authorizations_past T authz.Valid m

abbrev pub first_authorizations : Tables → ℕ → Ask → List AuthorizationRow
first_authorizations T m a = named_authorizations T a ++ (own_authorizations T a ++ past_authorizations T m)

-- the orders of these numbers that list one of these authorizations
abbrev pub listing_orders : Tables → List AuthorizationRow → List OrderRow
listing_orders T rows = flat_map (λ r. flat_map (orders_numbered T) (orders_listing T r.number)) rows

abbrev pub found_orders : Tables → ℕ → Ask → List OrderRow
found_orders T m a = (named_orders T a ++ (own_orders T a ++ past_orders T m)) ++ listing_orders T (authorizations_once (first_authorizations T m a))

-- the authorizations that these orders list
abbrev pub listed_authorizations : Tables → List OrderRow → List AuthorizationRow
listed_authorizations T rows = flat_map (λ o. flat_map (authorizations_numbered T) (numbers_of o.listed)) rows

-- the authorizations of an account for this name
abbrev pub authorizations_for : Tables → (account : ℕ) → Name → List AuthorizationRow
authorizations_for T n name = filter (λ r. same_name r.name name) (authorizations_named T n name.base)

-- those of these accounts for the names that are asked for
abbrev pub authorizations_asked_of : Tables → Option (List Name) → List AccountRow → List AuthorizationRow
authorizations_asked_of T None accounts = []
authorizations_asked_of T (Some names) accounts = flat_map (λ x. flat_map (authorizations_for T x.number) names) accounts

-- the authorizations of the account that a new order asks for, by their names
abbrev pub asked_authorizations : Tables → Ask → List AuthorizationRow
asked_authorizations T a = authorizations_asked_of T (asked_names a) (accounts_once (named_accounts T a))

abbrev pub found_authorizations : Tables → ℕ → Ask → List AuthorizationRow
found_authorizations T m a =
    first_authorizations T m a ++ (listed_authorizations T (orders_once (found_orders T m a)) ++ asked_authorizations T a)

abbrev pub found_accounts : Tables → ℕ → Ask → List AccountRow
found_accounts T m a =
    named_accounts T a
    ++ (flat_map (λ o. accounts_numbered T o.account) (orders_once (found_orders T m a))
    ++ flat_map (λ r. accounts_numbered T r.account) (authorizations_once (found_authorizations T m a)))

-- ---- as tables

abbrev pub loaded_rows : Tables → ℕ → Ask → Tables
loaded_rows T m a =
    record {
      meta = T.meta;
      nonces = puts (λ x. x.serial) (found_nonces T m a) [];
      accounts = puts (λ x. x.number) (found_accounts T m a) [];
      authorizations = puts (λ r. r.number) (found_authorizations T m a) [];
      orders = puts (λ o. o.number) (found_orders T m a) [];
    }

abbrev pub loaded_at : Tables → ℕ → Ask → Tables
loaded_at T m (ask.Office office.Directory) = only_meta T
loaded_at T m (ask.Office office.ChallengeWork) = T
loaded_at T m (ask.Office office.OrderWork) = T
loaded_at T m a = loaded_rows T m a

abbrev pub loaded : Tables → Call → Tables
loaded T call = loaded_at T (max call.at T.meta.counters.clock) call.ask
