-- What is enough for an ask, and the rows that are found by it.
use Rattle.std.specs.Prelude.{ℕ, ◌≡◌, ◌==◌, ◌++◌, ◌&&◌, ◌∷◌, find, is_some, map, not, [], List, if◌then◌else◌, option_map, option_to_list}
use Rattle.std.specs.List.{flat_map}
use Rattle.model_laws.specs.Placing.{puts}
use Rattle.desk_model.specs.{Asked.asked_names, Asked.asks_authorizations, Asked.asks_orders, Tables.Tables, declared.call.Ask.Ask}
use Rattle.desk_model.specs.{declared.rows.AccountRow.AccountRow, declared.rows.AuthorizationRow.AuthorizationRow, declared.rows.OrderRow.OrderRow}
use Rattle.model_parts.specs.MinimalPart.{needs_holders, needs_listed, changes_statuses}
use Rattle.model_parts.specs.Loaded.{account_numbers, authorization_numbers, challenge_numbers, keys, listing_orders, new_keys, order_numbers}
use Rattle.model_parts.specs.Loaded.{past_authorizations, past_orders}
use Rattle.model_parts.specs.LookUps.{accounts_numbered, accounts_with_key, authorizations_numbered, authorizations_of, summaries_of, orders_numbered}
use Rattle.model_parts.specs.LookUps.{owners_of}
use Rattle.store_api.specs.{Naming.Names, declared.enough.RowsNeeded.RowsNeeded}

-- these are needed for the ask at the moment
pub record NeedsFor (a : Ask) (m : ℕ) (needs : RowsNeeded) : Type 0 where
  pub named : Names (account_numbers a) (order_numbers a) (authorization_numbers a) (challenge_numbers a) (asks_orders a) (asks_authorizations a) needs.named
  pub moment : needs.moment ≡ m
  pub restated : needs.changes_statuses ≡ changes_statuses a
  pub listed : needs.needs_listed ≡ needs_listed a
  pub holders : needs.needs_holders ≡ needs_holders a
  pub names : option_map (λ v. v.now) needs.names ≡ asked_names a

-- the rows of a number are put into a table that has no row of it
abbrev pub missing : {X : Type 0} → (X → ℕ) → (ℕ → List X) → ℕ → List X → List X
missing number rows_of n table = if is_some (find (λ x. number x == n) table) then table else puts number (rows_of n) table

-- one number after the other
abbrev pub missings : {X : Type 0} → (X → ℕ) → (ℕ → List X) → List ℕ → List X → List X
missings number rows_of [] table = table
missings number rows_of (n ∷ ns) table = missings number rows_of ns (missing number rows_of n table)

-- rows are put into a table, those alone whose numbers it lacks
abbrev pub lacking : {X : Type 0} → (X → ℕ) → List X → List X → List X
lacking number [] table = table
lacking number (x ∷ xs) table = lacking number xs (missing number (λ n. x ∷ []) (number x) table)

-- the accounts with the request's key, and with the key that an account is to get
abbrev pub keyed_accounts : Tables → Ask → List AccountRow
keyed_accounts T a = flat_map (accounts_with_key T) (keys a) ++ flat_map (accounts_with_key T) (new_keys a)

-- the accounts that are named, put into a table: by their keys, and by number where they are missing
abbrev pub with_named : Tables → Ask → List AccountRow → List AccountRow
with_named T a table = missings (λ x. x.number) (accounts_numbered T) (account_numbers a) (puts (λ x. x.number) (keyed_accounts T a) table)

-- the authorizations that are named, and those of these accounts, where an account ends
abbrev pub movable_by : Tables → RowsNeeded → List AccountRow → List AuthorizationRow
movable_by T needs accounts =
    (flat_map (authorizations_numbered T) (option_to_list needs.named.authorization)
    ++ flat_map (λ c. flat_map (authorizations_numbered T) (owners_of T c)) (option_to_list needs.named.challenge))
    ++ (if needs.changes_statuses && needs.named.asks_authorizations then flat_map (λ x. authorizations_of T x.number) accounts else [])

-- the numbers of their accounts, where these are needed
abbrev pub holders_by : RowsNeeded → List AuthorizationRow → List ℕ
holders_by needs movable = if needs.needs_holders then map (λ r. r.account) movable else []

-- those past their moment, and these, where their statuses may change
abbrev pub restated_by : Tables → RowsNeeded → List AuthorizationRow → List AuthorizationRow
restated_by T needs movable = past_authorizations T needs.moment ++ (if needs.changes_statuses then movable else [])

-- the orders that are named, with or without what they list
abbrev pub orders_by : Tables → RowsNeeded → List OrderRow
orders_by T needs = flat_map (orders_numbered T) (option_to_list needs.named.order)

-- the orders past their moment, those that list these authorizations, and the named one, where what it lists is needed
abbrev pub opened_with : Tables → RowsNeeded → List AuthorizationRow → List OrderRow
opened_with T needs rows = (past_orders T needs.moment ++ listing_orders T rows) ++ (if needs.needs_listed then orders_by T needs else [])

-- the named order, where it is not
abbrev pub named_alone : Tables → RowsNeeded → List OrderRow
named_alone T needs = if not needs.needs_listed then orders_by T needs else []

-- the orders of these accounts, where they are asked for, in summary
abbrev pub listed_with : Tables → RowsNeeded → List AccountRow → List OrderRow
listed_with T needs accounts = if needs.named.asks_orders then flat_map (λ x. summaries_of T x.number) accounts else []
