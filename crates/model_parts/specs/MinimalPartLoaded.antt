-- The few rows that are enough for a call, as look-ups find them, one after the other.
use Rattle.std.specs.{Prelude.ℕ, Prelude.◌++◌, Prelude.◌&&◌, Prelude.not, Prelude.List, Prelude.[], Prelude.if◌then◌else◌, List.flat_map}
use Rattle.model_laws.specs.Placing.{puts}
use Rattle.desk_model.specs.{Asked.asked_names, Asked.asks_authorizations, Asked.asks_orders, Tables.Tables, declared.call.Ask.Ask}
use Rattle.desk_model.specs.{declared.rows.AccountRow.AccountRow, declared.rows.AuthorizationRow.AuthorizationRow, declared.rows.OrderRow.OrderRow}
use Rattle.model_parts.specs.MinimalPart.{needs_holders, needs_listed, changes_statuses}
use Rattle.model_parts.specs.Loaded.{accounts_once, authorizations_asked_of, authorizations_once, found_nonces, listed_authorizations}
use Rattle.model_parts.specs.Loaded.{listing_orders, named_accounts, named_authorizations, named_orders, orders_once, past_authorizations, past_orders}
use Rattle.model_parts.specs.LookUps.{accounts_numbered, authorizations_of, orders_of}

-- the authorizations that are named, and those of the accounts that are named, where an account ends
abbrev pub moved_authorizations : Tables → Ask → List AuthorizationRow
moved_authorizations T a =
    named_authorizations T a
    ++ (if changes_statuses a && asks_authorizations a then flat_map (λ x. authorizations_of T x.number) (accounts_once (named_accounts T a)) else [])

-- the accounts of these authorizations
abbrev pub holders_of : Tables → List AuthorizationRow → List AccountRow
holders_of T rows = flat_map (λ r. accounts_numbered T r.account) rows

abbrev pub minimal_accounts : Tables → Ask → List AccountRow
minimal_accounts T a = named_accounts T a ++ (if needs_holders a then holders_of T (authorizations_once (moved_authorizations T a)) else [])

abbrev pub restated_authorizations : Tables → ℕ → Ask → List AuthorizationRow
restated_authorizations T m a = past_authorizations T m ++ (if changes_statuses a then authorizations_once (moved_authorizations T a) else [])

abbrev pub opened_orders : Tables → ℕ → Ask → List OrderRow
opened_orders T m a =
    (past_orders T m ++ listing_orders T (authorizations_once (restated_authorizations T m a))) ++ (if needs_listed a then named_orders T a else [])

-- the orders of the accounts, where they are asked for
abbrev pub listed_orders : Tables → Ask → List OrderRow
listed_orders T a = if asks_orders a then flat_map (λ x. orders_of T x.number) (accounts_once (minimal_accounts T a)) else []

abbrev pub minimal_orders : Tables → ℕ → Ask → List OrderRow
minimal_orders T m a = opened_orders T m a ++ ((if not (needs_listed a) then named_orders T a else []) ++ listed_orders T a)

-- the authorizations that are needed with their challenges
abbrev pub whole_authorizations : Tables → ℕ → Ask → List AuthorizationRow
whole_authorizations T m a =
    restated_authorizations T m a
    ++ (authorizations_once (moved_authorizations T a) ++ authorizations_asked_of T (asked_names a) (accounts_once (minimal_accounts T a)))

abbrev pub minimal_authorizations : Tables → ℕ → Ask → List AuthorizationRow
minimal_authorizations T m a = whole_authorizations T m a ++ listed_authorizations T (orders_once (opened_orders T m a))

-- as tables
abbrev pub minimal_loaded : Tables → ℕ → Ask → Tables
minimal_loaded T m a =
    record {
      meta = T.meta;
      nonces = puts (λ x. x.serial) (found_nonces T m a) [];
      accounts = puts (λ x. x.number) (minimal_accounts T a) [];
      authorizations = puts (λ r. r.number) (minimal_authorizations T m a) [];
      orders = puts (λ o. o.number) (minimal_orders T m a) [];
    }
