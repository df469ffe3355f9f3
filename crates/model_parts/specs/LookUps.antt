-- Look-ups in tables: each by one column, a status among them, a range of one, a range beside a status, or the account and the name of an authorization.
use Rattle.std.specs.Prelude.{ℕ, ◌≡◌, ◌==◌, ◌&&◌, Bool, true, nat_lt, bytes_eq, List, map}
use Rattle.std.specs.List.{filter, flat_map, list_any}
use Rattle.desk_model.specs.{Derived.authz_code, Derived.numbers_of, Derived.order_code, Kept.EachOf, Legal.is_processing_challenge, Order.is_processing}
use Rattle.desk_model.specs.{Tables.Tables, declared.objects.Nonce.Nonce, declared.status.AuthzStatus.AuthzStatus, declared.status.OrderStatus.OrderStatus}
use Rattle.desk_model.specs.declared.rows.{AccountRow.AccountRow, AuthorizationRow.AuthorizationRow, ChallengeRow.ChallengeRow, OrderRow.OrderRow}
use Rattle.model_parts.specs.Thinned.{summarized, without_challenges}
use Rattle.model_parts.specs.declared.{queries.AccountsWhere.AccountsWhere, queries.AuthorizationsWhere.AuthorizationsWhere, queries.NoncesWhere.NoncesWhere}
use Rattle.model_parts.specs.declared.queries.OrdersWhere.{OrdersWhere}
use Rattle.model_parts.specs.declared.queries.AccountsWhere.TheVariants as accounts
use Rattle.model_parts.specs.declared.queries.AuthorizationsWhere.TheVariants as authorizations
use Rattle.model_parts.specs.declared.queries.NoncesWhere.TheVariants as nonces
use Rattle.model_parts.specs.declared.queries.OrdersWhere.TheVariants as orders

-- ---- nonces

-- which a query asks for
abbrev pub wants_nonce : NoncesWhere → Nonce → Bool
wants_nonce nonces.Any = λ x. true
wants_nonce (nonces.Serial n) = λ x. x.serial == n
wants_nonce (nonces.IssuedBefore t) = λ x. nat_lt x.issued t

abbrev pub nonces_where : Tables → NoncesWhere → List Nonce
nonces_where T which = filter (wants_nonce which) T.nonces

-- by the serial
abbrev pub nonces_numbered : Tables → ℕ → List Nonce
nonces_numbered T n = nonces_where T (nonces.Serial n)

-- issued before a moment
abbrev pub nonces_before : Tables → ℕ → List Nonce
nonces_before T t = nonces_where T (nonces.IssuedBefore t)

-- ---- accounts

-- it has the key text
abbrev pub has_key : List ℕ → AccountRow → Bool
has_key key = λ x. bytes_eq x.key key

-- which a query asks for
abbrev pub wants_account : AccountsWhere → AccountRow → Bool
wants_account accounts.Any = λ x. true
wants_account (accounts.Number n) = λ x. x.number == n
wants_account (accounts.Key key) = has_key key.now

abbrev pub accounts_where : Tables → AccountsWhere → List AccountRow
accounts_where T which = filter (wants_account which) T.accounts

-- by the number
abbrev pub accounts_numbered : Tables → ℕ → List AccountRow
accounts_numbered T n = accounts_where T (accounts.Number n)

-- by the key text
abbrev pub accounts_with_key : Tables → List ℕ → List AccountRow
accounts_with_key T key = filter (has_key key) T.accounts

-- ---- orders

-- which a query asks for
abbrev pub wants_order : OrdersWhere → OrderRow → Bool
wants_order orders.Any = λ o. true
wants_order (orders.Number n) = λ o. o.number == n
wants_order (orders.Past status m) = λ o. (order_code o.status == order_code status) && nat_lt o.expires m
wants_order orders.Processing = λ o. is_processing o.status

abbrev pub orders_where : Tables → OrdersWhere → List OrderRow
orders_where T which = filter (wants_order which) T.orders

-- by the number
abbrev pub orders_numbered : Tables → ℕ → List OrderRow
orders_numbered T n = orders_where T (orders.Number n)

-- by the account
abbrev pub orders_of : Tables → ℕ → List OrderRow
orders_of T n = filter (λ o. o.account == n) T.orders

-- by the account, in summary
abbrev pub summaries_of : Tables → ℕ → List OrderRow
summaries_of T n = map summarized (orders_of T n)

-- of one stored status, with an end before a moment
abbrev pub orders_past : Tables → OrderStatus → ℕ → List OrderRow
orders_past T status m = orders_where T (orders.Past status m)

-- stored as waiting for a certificate
abbrev pub orders_processing : Tables → List OrderRow
orders_processing T = orders_where T orders.Processing

-- ---- authorizations

-- it is of the account, and for the base name
abbrev pub is_named : ℕ → List ℕ → AuthorizationRow → Bool
is_named n base = λ r. (r.account == n) && bytes_eq r.name.base base

-- which a query asks for
abbrev pub wants_authorization : AuthorizationsWhere → AuthorizationRow → Bool
wants_authorization authorizations.Any = λ r. true
wants_authorization (authorizations.Number n) = λ r. r.number == n
wants_authorization (authorizations.Account n) = λ r. r.account == n
wants_authorization (authorizations.Named n base) = is_named n base.now
wants_authorization (authorizations.Past status m) = λ r. (authz_code r.status == authz_code status) && nat_lt r.expires m

abbrev pub authorizations_where : Tables → AuthorizationsWhere → List AuthorizationRow
authorizations_where T which = filter (wants_authorization which) T.authorizations

-- by the number
abbrev pub authorizations_numbered : Tables → ℕ → List AuthorizationRow
authorizations_numbered T n = authorizations_where T (authorizations.Number n)

-- by the number, without challenges
abbrev pub bare_authorizations : Tables → ℕ → List AuthorizationRow
bare_authorizations T n = map without_challenges (authorizations_numbered T n)

-- by the account
abbrev pub authorizations_of : Tables → ℕ → List AuthorizationRow
authorizations_of T n = authorizations_where T (authorizations.Account n)

-- by the account and the base name
abbrev pub authorizations_named : Tables → ℕ → List ℕ → List AuthorizationRow
authorizations_named T n base = filter (is_named n base) T.authorizations

-- of one stored status, with an end before a moment
abbrev pub authorizations_past : Tables → AuthzStatus → ℕ → List AuthorizationRow
authorizations_past T status m = authorizations_where T (authorizations.Past status m)

-- ---- rows that belong to others, by their two numbers

-- what orders list: the order and the authorization
abbrev pub places : Tables → List (ℕ × ℕ)
places T = flat_map (λ o. map (λ j. (o.number, j)) (numbers_of o.listed)) T.orders

-- challenges: the challenge and its authorization
abbrev pub challenges : Tables → List (ℕ × ℕ)
challenges T = flat_map (λ r. map (λ c. (c.number, r.number)) r.challenges) T.authorizations

-- the orders that list an authorization
abbrev pub orders_listing : Tables → ℕ → List ℕ
orders_listing T n = map (λ p. p.0) (filter (λ p. p.1 == n) (places T))

-- the authorization of a challenge
abbrev pub owners_of : Tables → ℕ → List ℕ
owners_of T n = map (λ p. p.1) (filter (λ p. p.0 == n) (challenges T))

-- the challenges of an authorization that are stored as waiting for the validator
abbrev pub waiting_of : AuthorizationRow → List ChallengeRow
waiting_of r = filter (λ c. is_processing_challenge c.status) r.challenges

-- the authorizations of these, each once for each of them
abbrev pub owners_processing : Tables → List ℕ
owners_processing T = flat_map (λ r. map (λ c. r.number) (waiting_of r)) T.authorizations

-- the same numbers, in whatever order and however often
abbrev pub AreNumbers : List ℕ → List ℕ → Type 0
AreNumbers ns ms = (p : ℕ → Bool) → list_any p ns ≡ list_any p ms

-- the challenges that wait, each behind the number of its authorization: those of one authorization in their order, and of no others
pub record AreWaiting (T : Tables) (rows : List (ℕ × ChallengeRow)) : Type 0 where
  pub owners : AreNumbers (map (λ p. p.0) rows) (owners_processing T)
  pub own : EachOf (λ r. map (λ p. p.1) (filter (λ p. p.0 == r.number) rows) ≡ waiting_of r) T.authorizations
