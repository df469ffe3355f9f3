-- Which rows, table by table in the order of their keys, are those of a book.
use Rattle.std.specs.Prelude.{◌≡◌, ◌==◌, ◌<◌, ℕ, List, [], ◌∷◌, map, find, filter_map, IsSome, Option, option_map}
use Rattle.store_columns.specs.Limits.{AreStored}
use Rattle.store_columns.specs.declared.columns.{AnswerKey.AnswerKey, BareChallenge.BareChallenge, FlatRows.FlatRows, Owned.Owned}
use Rattle.model_laws.specs.{Distinct.Distinct, Ordered.Ascends, Ordered.IsTable}
use Rattle.desk_model.specs.{Kept.EachOf, Tables.Tables}
use Rattle.desk_model.specs.declared.rows.{AccountRow.AccountRow, AuthorizationRow.AuthorizationRow, Listed.Listed, Meta.Meta, OrderRow.OrderRow}
use Rattle.store_book.specs.IsBook.{IsBookOf}

-- this number is one of these
abbrev pub IsAmong : List ℕ → ℕ → Type 0
IsAmong numbers n = IsSome (find (λ m. m == n) numbers)

-- they rise
abbrev pub Rise : List ℕ → Type 0
Rise numbers = Ascends (λ n. n) 1 numbers

-- the places of one order rise
abbrev pub PlacesRise : List (Owned Listed) → Type 0
PlacesRise [] = Unit {0}
PlacesRise (r ∷ rs) = EachOf (λ s. s.owner ≡ r.owner → r.row.place < s.row.place) rs × PlacesRise rs

-- the number of a challenge that was answered
abbrev pub answered_number : Owned BareChallenge → Option ℕ
answered_number c = option_map (λ _. c.row.number) c.row.answered

-- those of challenges
abbrev pub answered_numbers : List (Owned BareChallenge) → List ℕ
answered_numbers challenges = filter_map answered_number challenges

-- the accounts stand by number, and no key twice
pub record AreAccounts (last : ℕ) (accounts : List AccountRow) : Type 0 where
  pub table : IsTable (λ a. a.number) last accounts
  pub keys : Distinct (λ a. a.key) accounts

-- the orders stand by number, each of one of these accounts
pub record AreOrders (last : ℕ) (accounts : List ℕ) (orders : List OrderRow) : Type 0 where
  pub table : IsTable (λ o. o.number) last orders
  pub accounts_found : EachOf (λ o. IsAmong accounts o.account) orders

-- so do the authorizations
pub record AreAuthorizations (last : ℕ) (accounts : List ℕ) (authorizations : List AuthorizationRow) : Type 0 where
  pub table : IsTable (λ a. a.number) last authorizations
  pub accounts_found : EachOf (λ a. IsAmong accounts a.account) authorizations

-- these orders list these authorizations, each of them at a place above the last
pub record AreListed (orders authorizations : List ℕ) (listed : List (Owned Listed)) : Type 0 where
  pub places : PlacesRise listed
  pub orders_found : EachOf (λ l. IsAmong orders l.owner) listed
  pub authorizations_found : EachOf (λ l. IsAmong authorizations l.row.authorization) listed

-- the challenges stand by number, each of one of these authorizations
pub record AreChallenges (last : ℕ) (authorizations : List ℕ) (challenges : List (Owned BareChallenge)) : Type 0 where
  pub table : IsTable (λ c. c.row.number) last challenges
  pub authorizations_found : EachOf (λ c. IsAmong authorizations c.owner) challenges

-- there is one key for each challenge that was answered, in their order
abbrev pub AreKeys : List ℕ → List AnswerKey → Type 0
AreKeys answered keys = map (λ k. k.challenge) keys ≡ answered

-- each table by itself is in order, keeps its counter and finds what it refers to
pub record AreBookRows (meta : Meta) (rows : FlatRows) : Type 0 where
  pub metas : rows.metas ≡ meta ∷ []
  pub nonces : IsTable (λ n. n.serial) meta.counters.nonces rows.nonces
  pub accounts : AreAccounts meta.counters.accounts rows.accounts
  pub orders : AreOrders meta.counters.orders (map (λ a. a.number) rows.accounts) rows.orders
  pub authorizations : AreAuthorizations meta.counters.authorizations (map (λ a. a.number) rows.accounts) rows.authorizations
  pub listed : AreListed (map (λ o. o.number) rows.orders) (map (λ a. a.number) rows.authorizations) rows.listed
  pub challenges : AreChallenges meta.counters.challenges (map (λ a. a.number) rows.authorizations) rows.challenges
  pub keys : AreKeys (answered_numbers rows.challenges) rows.keys

-- such rows in their limits are those of a book
abbrev pub RowsAreBooks : Type 0
RowsAreBooks = (meta : Meta) (rows : FlatRows) → AreStored rows → AreBookRows meta rows → (T : Tables) × IsBookOf rows T
