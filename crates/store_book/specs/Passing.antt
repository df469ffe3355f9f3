-- Rows that pass one after the other.
use Rattle.std.specs.Prelude.{◌≡◌, ◌+◌, ◌<◌, ◌≤◌, ◌⊎◌, ℕ, List, [], ◌∷◌, Option, None, Some, map}
use Rattle.desk_model.specs.{Kept.EachOf, declared.rows.Counters.Counters, declared.rows.Listed.Listed, declared.rows.Meta.Meta}
use Rattle.model_laws.specs.Ordered.{Ascends, Below}
use Rattle.store_columns.specs.declared.columns.Owned.{Owned}
use Rattle.store_book.specs.{BookRows.AreListed, BookRows.IsAmong, BookRows.Rise, declared.counter.Counter.Counter}

-- the number is above that of the row before, and was given
pub record Counts (old : Counter) (number : ℕ) (new : Counter) : Type 0 where
  pub above : old.top < number
  pub given : number ≤ old.last
  pub top : new.top ≡ number
  pub last : new.last ≡ old.last

-- the numbers of the rows so far ascend, up to the counter's
pub record IsUpTo {X : Type 0} (number : X → ℕ) (first now : Counter) (rows : List X) : Type 0 where
  pub last : now.last ≡ first.last
  pub top : now.top ≤ now.last
  pub ascends : Ascends number 1 rows
  pub below : Below number (now.top + 1) rows
  pub reached : (n : ℕ) → 0 < n → Below number n rows → now.top < n

-- the rows so far, each of one of these owners, and their numbers
abbrev pub AreOwned : {X : Type 0} → (number owner : X → ℕ) (first now : Counter) (owners first_owners numbers : List ℕ) → List X → Type 0
AreOwned number owner first now owners first_owners numbers rows =
    IsUpTo number first now rows × (numbers ≡ map number rows) × (owners ≡ first_owners) × EachOf (λ x. IsAmong first_owners (owner x)) rows

-- a place of an order
abbrev pub ListedRow : Type 0
ListedRow = Owned Listed

-- the row is of an earlier order, or of this one, at no later place
abbrev pub IsPlacedUpTo : ℕ → ℕ → Owned Listed → Type 0
IsPlacedUpTo order place r = (r.owner < order) ⊎ ((r.owner ≡ order) × (r.row.place ≤ place))

-- the place of an order is behind that of the row before
abbrev pub IsPlacedNext : (before_order before_place order place : ℕ) → Type 0
IsPlacedNext before_order before_place order place = (before_order < order) ⊎ ((order ≡ before_order) × (before_place < place))

-- behind this order and place, each place is behind that of the row before
abbrev pub PlacedFrom : ℕ → ℕ → List (Owned Listed) → Type 0
PlacedFrom order place [] = Unit {0}
PlacedFrom order place (r ∷ rs) = IsPlacedNext order place r.owner r.row.place × PlacedFrom r.owner r.row.place rs

-- the places come behind this order and place, and these orders list these authorizations
pub record ArePlaced (order place : ℕ) (orders authorizations : List ℕ) (rows : List (Owned Listed)) : Type 0 where
  pub orders_rise : Rise orders
  pub authorizations_rise : Rise authorizations
  pub placed : PlacedFrom order place rows
  pub listed : AreListed orders authorizations rows

-- there is one row
abbrev pub IsOneRow : List Meta → Type 0
IsOneRow rows = (meta : Meta) × (rows ≡ meta ∷ [])

-- these are the counters of the one row that there is
pub record IsOnlyRow (kept : Counters) (rows : List Meta) : Type 0 where
  pub meta : Meta
  pub alone : rows ≡ meta ∷ []
  pub counters : kept ≡ meta.counters

-- no row has come, or one with these counters
abbrev pub IsRowSoFar : Option Counters → List Meta → Type 0
IsRowSoFar None rows = rows ≡ []
IsRowSoFar (Some kept) rows = IsOnlyRow kept rows
