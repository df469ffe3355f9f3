-- What the look-ups find is what the call touches, rule by rule.
use Rattle.std.proofs.Common.{◌≡◌, ℕ, ◌+◌, ◌-◌, max, List, [], ◌∷◌, map, filter, Option, Some, None, refl, ap, ◌∙◌, true, false, Bool, not, arith, rules}
use Rattle.std.proofs.{lemmas.List.Folds.list_any-append, Math.Bool.or-false}
use Rattle.std.specs.{Prelude.◌==◌, Prelude.◌&&◌, Prelude.◌||◌, Prelude.nat_lt, Prelude.nat_le, Prelude.bytes_eq, List.list_any, List.flat_map}
use Rattle.desk_model.specs.Asked.{has_new_key, asks_authorizations, asks_orders, carries, has_key, names_account, names_authorization, asked_names}
use Rattle.desk_model.specs.Asked.{names_order, names_owner}
use Rattle.desk_model.specs.Touched.{is_asked_authorization, is_first_authorization, is_named_account, is_named_authorization, is_named_order}
use Rattle.desk_model.specs.Touched.{is_own_authorization, is_own_order, is_past_order, is_touched_account, is_touched_authorization, is_touched_nonce}
use Rattle.desk_model.specs.Touched.{is_touched_order, lists, touched, touched_at, touched_rows}
use Rattle.desk_model.specs.{Derived.authz_code, Derived.numbers_of, Derived.order_code, Authorization.is_live, Lookup.holds, Tables.Tables, Kept.EachOf}
use Rattle.desk_model.specs.{Effect.has_row, Effect.is_live_order, Effect.is_overdue, Name.Name, Name.same_name, declared.call.Ask.Ask, declared.call.Call.Call}
use Rattle.desk_model.specs.{declared.objects.Nonce.Nonce, declared.rows.AccountRow.AccountRow, declared.rows.AuthorizationRow.AuthorizationRow}
use Rattle.desk_model.specs.{declared.rows.OrderRow.OrderRow, declared.status.AuthzStatus.AuthzStatus, declared.status.OrderStatus.OrderStatus}
use Rattle.model_laws.specs.Ordered.{IsOrdered}
use Rattle.model_laws.proofs.Basics.{each, eq_turn, list_any-map, list_any-same}
use Rattle.model_parts.specs.Loaded.{accounts_once, challenge_numbers, found_accounts, keys, listing_orders, named_accounts, order_numbers, own_authorizations}
use Rattle.model_parts.specs.Loaded.{authorizations_once, account_numbers, named_authorizations, asked_authorizations, authorizations_for, past_authorizations}
use Rattle.model_parts.specs.Loaded.{orders_once, found_nonces, new_keys, found_orders, loaded, loaded_at, loaded_rows, named_orders, own_orders, past_orders}
use Rattle.model_parts.specs.Loaded.{authorization_numbers, first_authorizations, found_authorizations, listed_authorizations, authorizations_asked_of, serials}
use Rattle.model_parts.specs.LookUps.{accounts_numbered, accounts_with_key, authorizations_numbered, challenges, orders_listing, orders_numbered, orders_past}
use Rattle.model_parts.specs.LookUps.{owners_of, places}
use Rattle.model_parts.proofs.{Cut.numbered, Found.IsFound, Found.any_filter, Found.found_both, Found.found_by, Found.found_filter, Found.found_filtered}
use Rattle.model_parts.proofs.{Found.found_if, Found.found_none, Found.found_once, Found.found_same, Found.found_alike, Found.found_beside, Found.found_table}
use Rattle.desk_model.specs.declared.call.Ask.TheVariants as ask
use Rattle.desk_model.specs.declared.call.OfficeAsk.TheVariants as office
use Rattle.desk_model.specs.declared.status.AuthzStatus.TheVariants as authz
use Rattle.desk_model.specs.declared.status.OrderStatus.TheVariants as order

-- ---- tests on lists

-- some item of some list passes where one of all of them does
pub any_flat : {X Y : Type 0} (p : Y → Bool) (f : X → List Y) (xs : List X) → list_any p (flat_map f xs) ≡ list_any (λ x. list_any p (f x)) xs
any_flat p f [] = refl
any_flat p f (x ∷ xs) = list_any-append p (f x) (flat_map f xs) ∙ ap (λ b. list_any p (f x) || b) (any_flat p f xs)

-- a test behind each item's, which knows nothing of the items, stands before all
pub any_beside : {X : Type 0} (p : X → Bool) (b : Bool) (xs : List X) → list_any (λ x. p x && b) xs ≡ (b && list_any p xs)
any_beside p b [] = grind arith
any_beside p b (x ∷ xs) = grind (arith, (any_beside p b xs))

-- ---- what an ask names

-- a serial that the ask carries
carried : (a : Ask) (n : ℕ) → list_any (λ k. n == k) (serials a) ≡ carries a n
carried a n = grind arith

-- a key that it has
keyed : (a : Ask) (text : List ℕ) → list_any (λ k. bytes_eq text k) (keys a) ≡ has_key a text
keyed a text = grind arith

-- a key that it gives an account
new_keyed : (a : Ask) (text : List ℕ) → list_any (λ k. bytes_eq text k) (new_keys a) ≡ has_new_key a text
new_keyed a text = grind arith

-- an account that it names
account_listed : (a : Ask) (n : ℕ) → list_any (λ k. n == k) (account_numbers a) ≡ names_account a n
account_listed a n = grind arith

-- an order
order_listed : (a : Ask) (n : ℕ) → list_any (λ k. n == k) (order_numbers a) ≡ names_order a n
order_listed a n = grind arith

-- an authorization
authorization_listed : (a : Ask) (n : ℕ) → list_any (λ k. n == k) (authorization_numbers a) ≡ names_authorization a n
authorization_listed a n = grind arith

-- a challenge, by its authorization
challenge_listed : (a : Ask) (r : AuthorizationRow) → list_any (λ c. has_row c r) (challenge_numbers a) ≡ names_owner a r
challenge_listed a r = grind arith

-- ---- rows that belong to others

-- an authorization's number is found at a challenge where the authorization has it
owner_found : (T : Tables) → IsOrdered T → (c : ℕ) → EachOf (λ r. list_any (λ n. r.number == n) (owners_of T c) ≡ has_row c r) T.authorizations
owner_found T ordered c =
    each _ _ T.authorizations
    (λ r e.
    list_any-map (λ n. r.number == n) (λ p. p.1) (filter (λ p. p.0 == c) (challenges T))
    ∙ any_filter (λ p. p.0 == c) (λ p. r.number == p.1) (challenges T)
    ∙ any_flat (λ p. (p.0 == c) && (r.number == p.1)) (λ (x : AuthorizationRow). map (λ d. (d.number, x.number)) x.challenges) T.authorizations
    ∙ list_any-same _ _ T.authorizations (λ x.
    list_any-map (λ p. (p.0 == c) && (r.number == p.1)) (λ d. (d.number, x.number)) x.challenges
    ∙ any_beside (λ d. d.number == c) (r.number == x.number) x.challenges
    ∙ (λ i. eq_turn r.number x.number i && list_any-same (λ d. d.number == c) (λ d. c == d.number) x.challenges (λ d. eq_turn d.number c) i))
    ∙ e)
    (numbered (λ (r : AuthorizationRow). r.number) (has_row c) 1 T.authorizations ordered.authorizations.0)

-- an order's number is found at an authorization that it lists
listing_found : (T : Tables) → IsOrdered T → (j : ℕ) → EachOf (λ o. list_any (λ n. o.number == n) (orders_listing T j) ≡ lists o j) T.orders
listing_found T ordered j =
    each _ _ T.orders
    (λ o e.
    list_any-map (λ n. o.number == n) (λ p. p.0) (filter (λ p. p.1 == j) (places T))
    ∙ any_filter (λ p. p.1 == j) (λ p. o.number == p.0) (places T)
    ∙ any_flat (λ p. (p.1 == j) && (o.number == p.0)) (λ (x : OrderRow). map (λ i. (x.number, i)) (numbers_of x.listed)) T.orders
    ∙ list_any-same _ _ T.orders (λ x.
    list_any-map (λ p. (p.1 == j) && (o.number == p.0)) (λ i. (x.number, i)) (numbers_of x.listed)
    ∙ any_beside (λ i. i == j) (o.number == x.number) (numbers_of x.listed)
    ∙ ap (λ b. b && lists x j) (eq_turn o.number x.number))
    ∙ e)
    (numbered (λ (o : OrderRow). o.number) (λ x. lists x j) 1 T.orders ordered.orders.0)

-- ---- the rules

-- numbers of the rows
abbrev pub of_nonce : Nonce → ℕ
of_nonce x = x.serial

-- of an account
abbrev pub of_account : AccountRow → ℕ
of_account x = x.number

-- of an authorization
abbrev pub of_authorization : AuthorizationRow → ℕ
of_authorization r = r.number

-- of an order
abbrev pub of_order : OrderRow → ℕ
of_order o = o.number

-- a nonce was issued more than a life ago where its life is over
past_life : (m life : ℕ) (x : Nonce) → nat_lt x.issued (m - life) ≡ not (nat_le m (x.issued + life))
past_life m life x = grind arith

-- nonces that the ask carries, or whose life is over
pub nonces_found : (T : Tables) (m : ℕ) (a : Ask) → IsOrdered T → IsFound of_nonce (is_touched_nonce T m a) T.nonces (found_nonces T m a)
nonces_found T m a h =
    found_alike (found_both (found_by (λ k. found_filter h.nonces.0) (serials a)) (found_filter h.nonces.0))
    (λ x i. carried a x.serial i || past_life m T.meta.policy.nonce_life x i)

-- accounts that the ask names
pub accounts_named : (T : Tables) (a : Ask) → IsOrdered T → IsFound of_account (is_named_account a) T.accounts (named_accounts T a)
accounts_named T a h =
    found_alike (found_both (keyed_by (keys a)) (found_both (keyed_by (new_keys a)) (found_by (λ k. found_filter h.accounts.0) (account_numbers a))))
    (λ x i. keyed a x.key i || (new_keyed a x.key i || account_listed a x.number i))
  where
    keyed_by : (texts : List (List ℕ)) → IsFound of_account (λ x. list_any (λ k. bytes_eq x.key k) texts) T.accounts (flat_map (accounts_with_key T) texts)
    keyed_by = found_by (λ k. found_filter h.accounts.0)

-- each of them once
pub accounts_once_named : (T : Tables) (a : Ask) → IsOrdered T → IsFound of_account (is_named_account a) T.accounts (accounts_once (named_accounts T a))
accounts_once_named T a h = found_once h.accounts.0 (accounts_named T a h)

-- the account of a number
pub account_at : (T : Tables) → IsOrdered T → (n : ℕ) → IsFound of_account (λ x. n == x.number) T.accounts (accounts_numbered T n)
account_at T h n = found_alike (found_filter h.accounts.0) (λ x. eq_turn x.number n)

-- orders of some numbers
orders_at : (T : Tables) → IsOrdered T → (ns : List ℕ) → IsFound of_order (λ o. list_any (λ k. o.number == k) ns) T.orders (flat_map (orders_numbered T) ns)
orders_at T h = found_by (λ k. found_filter h.orders.0)

-- authorizations of some numbers
pub authorizations_at : (T : Tables) → IsOrdered T → (ns : List ℕ) → IsFound of_authorization
    (λ r. list_any (λ k. r.number == k) ns) T.authorizations (flat_map (authorizations_numbered T) ns)
authorizations_at T h = found_by (λ k. found_filter h.authorizations.0)

-- orders that the ask names
pub orders_named : (T : Tables) (a : Ask) → IsOrdered T → IsFound of_order (is_named_order a) T.orders (named_orders T a)
orders_named T a h = found_alike (orders_at T h (order_numbers a)) (λ o. order_listed a o.number)

-- authorizations that it names, or of which it names a challenge
pub authorizations_named : (T : Tables) (a : Ask) → IsOrdered T → IsFound of_authorization (is_named_authorization a) T.authorizations
    (named_authorizations T a)
authorizations_named T a h =
    found_alike (found_both (authorizations_at T h (authorization_numbers a))
    (found_by (λ c. found_same (authorizations_at T h (owners_of T c)) (owner_found T h c)) (challenge_numbers a)))
    (λ r i. authorization_listed a r.number i || challenge_listed a r i)

-- orders of the accounts that are named, where these are asked for
orders_own : (T : Tables) (a : Ask) → IsOrdered T → IsFound of_order (is_own_order T a) T.orders (own_orders T a)
orders_own T a h = found_if (asks_orders a) (found_beside (λ x. found_filter h.orders.0) (accounts_once_named T a h))

-- authorizations of these accounts, where an account may end
authorizations_own : (T : Tables) (a : Ask) → IsOrdered T → IsFound of_authorization (is_own_authorization T a) T.authorizations (own_authorizations T a)
authorizations_own T a h = found_if (asks_authorizations a) (found_beside (λ x. found_filter h.authorizations.0) (accounts_once_named T a h))

-- a test that knows nothing of the items stands before the others
any_under : {X : Type 0} (b : Bool) (p : X → Bool) (xs : List X) → list_any (λ x. b && p x) xs ≡ (b && list_any p xs)
any_under true p xs = refl
any_under false p [] = refl
any_under false p (x ∷ xs) = any_under false p xs

-- and behind them
any_behind : {X : Type 0} (b : Bool) (p : X → Bool) (xs : List X) → list_any (λ x. p x && b) xs ≡ (list_any p xs && b)
any_behind b p xs = grind (arith, any_beside)

-- who has the name has its base
same_bases : (one other : Name) (b : Bool) → (same_name one other && (b && bytes_eq one.base other.base)) ≡ (same_name one other && b)
same_bases one other b = grind arith

-- the authorizations of an account for some names
authorizations_by_names : (T : Tables) (n : ℕ) → IsOrdered T → (names : List Name)
    → IsFound of_authorization (λ r. list_any (same_name r.name) names && (r.account == n)) T.authorizations (flat_map (authorizations_for T n) names)
authorizations_by_names T n h names =
    found_alike (found_by (λ name. found_filtered (λ r. same_name r.name name) (found_filter h.authorizations.0)) names)
    (λ r. list_any-same _ _ names (λ name. same_bases r.name name (r.account == n)) ∙ any_behind (r.account == n) (same_name r.name) names)

-- the authorizations for some names of the accounts that are found
pub asked_found : (T : Tables) (test : AccountRow → Bool) (rows : List AccountRow) → IsOrdered T → IsFound of_account test T.accounts rows →
    (names : Option (List Name)) → IsFound of_authorization
    (λ r. holds (list_any (same_name r.name)) names && list_any (λ x. test x && (r.account == x.number)) T.accounts)
    T.authorizations (authorizations_asked_of T names rows)
asked_found T test rows h is None = found_none of_authorization T.authorizations
asked_found T test rows h is (Some names) =
    found_alike (found_by (λ (x : AccountRow). authorizations_by_names T x.number h names) rows)
    (λ r. any_under (list_any (same_name r.name) names) (λ x. r.account == x.number) rows
    ∙ ap (λ b. list_any (same_name r.name) names && b) (is.tests (λ x. r.account == x.number)))

-- authorizations of these accounts for the names that are asked for
authorizations_asked : (T : Tables) (a : Ask) → IsOrdered T → IsFound of_authorization (is_asked_authorization T a) T.authorizations (asked_authorizations T a)
authorizations_asked T a h = asked_found T (is_named_account a) (accounts_once (named_accounts T a)) h (accounts_once_named T a h) (asked_names a)

-- orders that are not over, past their moments
pub orders_over : (T : Tables) (m : ℕ) → IsOrdered T → IsFound of_order (is_past_order m) T.orders (past_orders T m)
orders_over T m h =
    found_alike (found_both (one order.Pending) (found_both (one order.Ready) (one order.Processing))) (λ o. by o.status (nat_lt o.expires m))
  where
    of_status : OrderStatus → OrderRow → Bool
    of_status s o = (order_code o.status == order_code s) && nat_lt o.expires m

    one : (s : OrderStatus) → IsFound of_order (of_status s) T.orders (orders_past T s m)
    one s = found_filter h.orders.0

    by : (s : OrderStatus) (b : Bool) →
        (((order_code s == order_code order.Pending) && b)
        || (((order_code s == order_code order.Ready) && b) || ((order_code s == order_code order.Processing) && b)))
        ≡ (is_live_order s && b)
    by k b = grind arith

-- authorizations that are pending or valid, past their moments
pub authorizations_over : (T : Tables) (m : ℕ) → IsOrdered T → IsFound of_authorization (is_overdue m) T.authorizations (past_authorizations T m)
authorizations_over T m h =
    found_alike (found_both (found_filter h.authorizations.0) (found_filter h.authorizations.0)) (λ r. by r.status (nat_lt r.expires m))
  where
    by : (s : AuthzStatus) (b : Bool) → (((authz_code s == authz_code authz.Pending) && b)
        || ((authz_code s == authz_code authz.Valid) && b)) ≡ (is_live s && b)
    by authz.Pending b = or-false b
    by _ b = refl

-- authorizations that are named, of an account that may end, or past their moments
authorizations_first : (T : Tables) (m : ℕ) (a : Ask) → IsOrdered T
    → IsFound of_authorization (is_first_authorization T m a) T.authorizations (first_authorizations T m a)
authorizations_first T m a h = search (rules, found_both, authorizations_named, authorizations_own, authorizations_over)

-- orders that list one of the rows found
pub orders_listed : (T : Tables) (test : AuthorizationRow → Bool) (rows : List AuthorizationRow) → IsOrdered T
    → IsFound of_authorization test T.authorizations rows →
    IsFound of_order (λ o. list_any (λ r. test r && lists o r.number) T.authorizations) T.orders (listing_orders T rows)
orders_listed T test rows h is =
    found_beside (λ (r : AuthorizationRow). found_same (orders_at T h (orders_listing T r.number)) (listing_found T h r.number)) is

-- orders that are touched
orders_found : (T : Tables) (m : ℕ) (a : Ask) → IsOrdered T → IsFound of_order (is_touched_order T m a) T.orders (found_orders T m a)
orders_found T m a h =
    found_both (found_both (orders_named T a h) (found_both (orders_own T a h) (orders_over T m h)))
    (orders_listed T (is_first_authorization T m a) _ h (found_once h.authorizations.0 (authorizations_first T m a h)))

-- each of them once
orders_once_found : (T : Tables) (m : ℕ) (a : Ask) → IsOrdered T → IsFound of_order (is_touched_order T m a) T.orders (orders_once (found_orders T m a))
orders_once_found T m a h = found_once h.orders.0 (orders_found T m a h)

-- authorizations that the orders found list
pub authorizations_listed : (T : Tables) (test : OrderRow → Bool) (rows : List OrderRow) → IsOrdered T → IsFound of_order test T.orders rows →
    IsFound of_authorization (λ r. list_any (λ o. test o && lists o r.number) T.orders) T.authorizations (listed_authorizations T rows)
authorizations_listed T test rows h is =
    found_beside (λ (o : OrderRow). found_alike (authorizations_at T h (numbers_of o.listed))
    (λ r. list_any-same _ _ (numbers_of o.listed) (λ n. eq_turn r.number n))) is

-- authorizations that are touched
authorizations_found : (T : Tables) (m : ℕ) (a : Ask) → IsOrdered T
    → IsFound of_authorization (is_touched_authorization T m a) T.authorizations (found_authorizations T m a)
authorizations_found T m a h = search (rules, found_both, authorizations_first, authorizations_listed, orders_once_found, authorizations_asked)

-- each of them once
authorizations_once_found : (T : Tables) (m : ℕ) (a : Ask) → IsOrdered T
    → IsFound of_authorization (is_touched_authorization T m a) T.authorizations (authorizations_once (found_authorizations T m a))
authorizations_once_found T m a h = search (rules, found_once, authorizations_found)

-- accounts that are touched
accounts_found : (T : Tables) (m : ℕ) (a : Ask) → IsOrdered T → IsFound of_account (is_touched_account T m a) T.accounts (found_accounts T m a)
accounts_found T m a h =
    found_both (accounts_named T a h) (found_both (found_beside (λ (o : OrderRow). account_at T h o.account) (orders_once_found T m a h))
    (found_beside (λ (r : AuthorizationRow). account_at T h r.account) (authorizations_once_found T m a h)))

-- ---- as tables

-- the rows that are loaded are those that are touched
rows_loaded : (T : Tables) (m : ℕ) (a : Ask) → IsOrdered T → loaded_rows T m a ≡ touched_rows T m a
rows_loaded T m a h = grind (arith, found_table, nonces_found, accounts_found, authorizations_found, orders_found)

-- so it is at the moment of a call
pub loaded_touched : (T : Tables) (call : Call) → IsOrdered T → loaded T call ≡ touched T call
loaded_touched T call h = by call.ask
  where
    by : (a : Ask) → loaded_at T (max call.at T.meta.counters.clock) a ≡ touched_at T (max call.at T.meta.counters.clock) a
    by (ask.Office office.Directory) = refl
    by (ask.Office office.ChallengeWork) = refl
    by (ask.Office office.OrderWork) = refl
    by a = rows_loaded T (max call.at T.meta.counters.clock) a h
