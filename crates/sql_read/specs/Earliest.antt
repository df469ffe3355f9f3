-- The earliest of some moments.
use Rattle.std.specs.Prelude.{ℕ, ℤ, ◌≡◌, ◌≤◌, ◌==◌, List, [], ◌∷◌, map, option_map, pos, Option, Some, None, IsTrue, Result, IfErr, IfOk, OnOk}
use Rattle.std.specs.List.{filter, list_any}
use Rattle.sqlite.specs.{Order.Row, Order.column, Store.Ghosts, Held.Held, Held.state, State.HasCleanDisk, State.IsUnchanged, State.Shown}
use Rattle.store_book.specs.IsBook.{IsStoredBook}
use Rattle.sql_schema.specs.Stays.{Asks}
use Rattle.desk_model.specs.Derived.{authz_code, order_code}
use Rattle.desk_model.specs.{Kept.EachOf, Tables.Tables, declared.status.AuthzStatus.AuthzStatus, declared.status.OrderStatus.OrderStatus}
use Rattle.sql_read.specs.LookUpFaults.{BeginWithMoment, IsOfMemoryOrDisk, IsSureQuery}
use Rattle.sql_read.specs.{Failures.MayRead, Held.ForHeld, Spelled.number_in, declared.fault.ReadFault.ReadFault}

-- it is one of them, and none is before it; or there is none
abbrev pub IsEarliest : List ℕ → Option ℕ → Type 0
IsEarliest moments None = moments ≡ []
IsEarliest moments (Some m) = IsTrue (list_any (λ n. n == m) moments) × EachOf (λ n. m ≤ n) moments

-- the number with which the first row begins, where there is one
abbrev pub first_number : List Row → Option ℤ
first_number [] = None
first_number (row ∷ rest) = Some (number_in (column row 0))

-- when nonces were issued
abbrev pub issues : Tables → List ℕ
issues T = map (λ n. n.issued) T.nonces

-- the ends of the orders of a stored status
abbrev pub order_ends : Tables → OrderStatus → List ℕ
order_ends T status = map (λ o. o.expires) (filter (λ o. order_code o.status == order_code status) T.orders)

-- the ends of the authorizations of a stored status
abbrev pub authorization_ends : Tables → AuthzStatus → List ℕ
authorization_ends T status = map (λ r. r.expires) (filter (λ r. authz_code r.status == authz_code status) T.authorizations)

-- whatever a query shows, the first moment is the earliest of these, and it is sure
pub record FindsEarliest {S : Type 0} (g : Ghosts S) (ask : List ℕ × Row) (old : Held S) (ms : List ℕ) : Type 0 where
  pub shows : (new : Held S) (rows : List Row) (found : Option ℕ) → Shown ask.0 ask.1 (state g old) (state g new) rows
      → option_map (λ m. pos m) found ≡ first_number rows → IsEarliest ms found
  pub sure : MayRead (state g old) → IsSureQuery g ask.0 ask.1 old BeginWithMoment

-- of whatever tables the database held this is the earliest; of a desk's it failed for memory or the disk alone; it changed nothing
pub record TellsEarliest {S : Type 0} (g : Ghosts S) (old new : Held S) (moments : Tables → List ℕ) (result : Result (Option ℕ) ReadFault)
    : Type 0 where
  pub found : ForHeld (state g old) (state g new) (λ T. IfOk result (IsEarliest (moments T)))
  pub caused : ForHeld (state g old) (state g new) (λ T. IsStoredBook T → MayRead (state g old)
      → IfErr result (IsOfMemoryOrDisk (state g old) (state g new)))
  pub unchanged : HasCleanDisk (state g new) → OnOk result (IsUnchanged (state g old) (state g new))
  pub asks : Asks (state g old) (state g new)
