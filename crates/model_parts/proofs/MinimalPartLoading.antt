-- What the look-ups of the few rows find is what is enough, rule by rule.
use Rattle.std.proofs.Common.{◌≡◌, ℕ, List, [], ◌++◌, refl, true, false, Bool, not, arith, rules}
use Rattle.std.specs.{Prelude.◌==◌, Prelude.◌&&◌, Prelude.◌||◌, Prelude.if◌then◌else◌, List.list_any}
use Rattle.desk_model.specs.Asked.{asked_names, asks_authorizations, asks_orders}
use Rattle.desk_model.specs.Touched.{is_named_account, is_named_order, is_past_order, lists}
use Rattle.desk_model.specs.{Tables.Tables, declared.call.Ask.Ask, declared.rows.AccountRow.AccountRow, declared.rows.AuthorizationRow.AuthorizationRow}
use Rattle.model_laws.specs.Ordered.{IsOrdered}
use Rattle.model_parts.specs.MinimalPart.{minimal_rows, is_needed_account, is_needed_authorization, is_needed_order, is_moved_authorization, is_opened_order}
use Rattle.model_parts.specs.MinimalPart.{is_restated_authorization, is_wanted_authorization, is_whole_authorization, is_whole_order, needs_listed}
use Rattle.model_parts.specs.MinimalPart.{changes_statuses}
use Rattle.model_parts.specs.MinimalPartLoaded.{minimal_accounts, minimal_authorizations, minimal_loaded, minimal_orders, holders_of, listed_orders}
use Rattle.model_parts.specs.MinimalPartLoaded.{moved_authorizations, opened_orders, restated_authorizations, whole_authorizations}
use Rattle.model_parts.specs.Loaded.{accounts_once, authorizations_asked_of, authorizations_once, named_orders, orders_once}
use Rattle.model_parts.proofs.Found.{IsFound, found_alike, found_beside, found_both, found_filter, found_if, found_once, found_table}
use Rattle.model_parts.proofs.Loading.{account_at, asked_found, accounts_named, accounts_once_named, authorizations_listed, authorizations_named}
use Rattle.model_parts.proofs.Loading.{authorizations_over, nonces_found, of_account, of_authorization, of_order, orders_listed, orders_named, orders_over}

-- authorizations that are named, or of an account that ends
moved_found : (T : Tables) (a : Ask) → IsOrdered T → IsFound of_authorization (is_moved_authorization T a) T.authorizations (moved_authorizations T a)
moved_found T a h =
    found_both (authorizations_named T a h)
    (found_alike (found_if (changes_statuses a && asks_authorizations a)
    (found_beside (λ (x : AccountRow). found_filter h.authorizations.0) (accounts_once_named T a h)))
    (λ r. together (changes_statuses a) (asks_authorizations a) (list_any (λ x. is_named_account a x && (r.account == x.number)) T.accounts)))
  where
    together : (b c d : Bool) → ((b && c) && d) ≡ (b && (c && d))
    together true c d = refl
    together false c d = refl

-- each of them once
moved_once : (T : Tables) (a : Ask) → IsOrdered T → IsFound of_authorization (is_moved_authorization T a) T.authorizations
    (authorizations_once (moved_authorizations T a))
moved_once T a h = found_once h.authorizations.0 (moved_found T a h)

-- the accounts of the authorizations that are found
holders_found : (T : Tables) (test : AuthorizationRow → Bool) (rows : List AuthorizationRow) → IsOrdered T →
    IsFound of_authorization test T.authorizations rows →
    IsFound of_account (λ x. list_any (λ r. test r && (r.account == x.number)) T.authorizations) T.accounts (holders_of T rows)
holders_found T test rows h is = found_beside (λ (r : AuthorizationRow). account_at T h r.account) is

-- accounts that are needed
accounts_minimal : (T : Tables) (a : Ask) → IsOrdered T → IsFound of_account (is_needed_account T a) T.accounts (minimal_accounts T a)
accounts_minimal T a h = search (rules, found_both, accounts_named, found_if, holders_found, moved_once)

-- each of them once
accounts_minimal_once : (T : Tables) (a : Ask) → IsOrdered T → IsFound of_account (is_needed_account T a) T.accounts (accounts_once (minimal_accounts T a))
accounts_minimal_once T a h = found_once h.accounts.0 (accounts_minimal T a h)

-- authorizations whose statuses may change
pub restated_found : (T : Tables) (m : ℕ) (a : Ask) → IsOrdered T →
    IsFound of_authorization (is_restated_authorization T m a) T.authorizations (restated_authorizations T m a)
restated_found T m a h = search (rules, found_both, authorizations_over, found_if, moved_once)

-- orders whose statuses may change, or that are named
opened_found : (T : Tables) (m : ℕ) (a : Ask) → IsOrdered T → IsFound of_order (is_opened_order T m a) T.orders (opened_orders T m a)
opened_found T m a h =
    found_both (found_both (orders_over T m h)
    (orders_listed T (is_restated_authorization T m a) _ h (found_once h.authorizations.0 (restated_found T m a h))))
    (found_if (needs_listed a) (orders_named T a h))

-- each of them once
opened_once : (T : Tables) (m : ℕ) (a : Ask) → IsOrdered T → IsFound of_order (is_opened_order T m a) T.orders (orders_once (opened_orders T m a))
opened_once T m a h = found_once h.orders.0 (opened_found T m a h)

-- orders of the accounts, where these are asked for
pub listed_orders_found : (T : Tables) (a : Ask) → IsOrdered T → IsFound of_order
    (λ o. asks_orders a && list_any (λ x. is_needed_account T a x && (o.account == x.number)) T.accounts) T.orders (listed_orders T a)
listed_orders_found T a h = found_if (asks_orders a) (found_beside (λ (x : AccountRow). found_filter h.orders.0) (accounts_minimal_once T a h))

-- orders that are needed
orders_minimal : (T : Tables) (m : ℕ) (a : Ask) → IsOrdered T → IsFound of_order (is_needed_order T m a) T.orders (minimal_orders T m a)
orders_minimal T m a h =
    found_alike (found_both (opened_found T m a h) (found_both (found_if (not (needs_listed a)) (orders_named T a h)) (listed_orders_found T a h)))
    (λ o. by (is_past_order m o || list_any (λ r. is_restated_authorization T m a r && lists o r.number) T.authorizations)
    (needs_listed a) (is_named_order a o) (asks_orders a && list_any (λ x. is_needed_account T a x && (o.account == x.number)) T.accounts))
  where
    by : (x n d w : Bool) → ((x || (n && d)) || ((not n && d) || w)) ≡ ((x || (n && d)) || (d || w))
    by k n d w = grind arith

-- the orders that are needed with what they list
pub whole_found : (T : Tables) (m : ℕ) (a : Ask) → IsOrdered T →
    IsFound of_order (is_whole_order T m a) T.orders (opened_orders T m a ++ (if not (needs_listed a) then named_orders T a else []))
whole_found T m a h =
    found_alike (found_both (opened_found T m a h) (found_if (not (needs_listed a)) (orders_named T a h)))
    (λ o. by (is_past_order m o || list_any (λ r. is_restated_authorization T m a r && lists o r.number) T.authorizations)
    (needs_listed a) (is_named_order a o))
  where
    by : (x n d : Bool) → ((x || (n && d)) || (not n && d)) ≡ ((x || (n && d)) || d)
    by x n d = grind arith

-- authorizations that the names which are asked for may use again
wanted_found : (T : Tables) (a : Ask) → IsOrdered T → IsFound of_authorization (is_wanted_authorization T a) T.authorizations
    (authorizations_asked_of T (asked_names a) (accounts_once (minimal_accounts T a)))
wanted_found T a h = asked_found T (is_needed_account T a) (accounts_once (minimal_accounts T a)) h (accounts_minimal_once T a h) (asked_names a)

-- the authorizations that are needed with their challenges
pub whole_authorizations_found : (T : Tables) (m : ℕ) (a : Ask) → IsOrdered T →
    IsFound of_authorization (is_whole_authorization T m a) T.authorizations (whole_authorizations T m a)
whole_authorizations_found T m a h = search (rules, found_both, restated_found, moved_once, wanted_found)

-- authorizations that are needed
authorizations_minimal : (T : Tables) (m : ℕ) (a : Ask) → IsOrdered T →
    IsFound of_authorization (is_needed_authorization T m a) T.authorizations (minimal_authorizations T m a)
authorizations_minimal T m a h =
    found_alike (found_both (whole_authorizations_found T m a h) (authorizations_listed T (is_opened_order T m a) _ h (opened_once T m a h)))
    (λ r. by (is_restated_authorization T m a r) (list_any (λ o. is_opened_order T m a o && lists o r.number) T.orders)
    (is_moved_authorization T a r || is_wanted_authorization T a r))
  where
    by : (x l w : Bool) → ((x || w) || l) ≡ ((x || l) || w)
    by x l w = grind arith

-- as tables
pub loaded_minimal : (T : Tables) (m : ℕ) (a : Ask) → IsOrdered T → minimal_loaded T m a ≡ minimal_rows T m a
loaded_minimal T m a h = grind (arith, found_table, nonces_found, accounts_minimal, authorizations_minimal, orders_minimal)
