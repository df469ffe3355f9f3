-- By what a look-up of a desk's tables fails.
use Rattle.std.specs.Prelude.{◌≡◌, ℕ, ⊤, pos, List, [], ◌∷◌, map, All}
use Rattle.sqlite.specs.State.{State, FailsToQuery, Shown}
use Rattle.sqlite.specs.{Held.Held, Held.state, Order.Row, Store.Ghosts, declared.error.Error.Error, declared.types.Value.TheVariants.Int}
use Rattle.desk_model.specs.Kept.{EachOf}
use Rattle.sql_schema.specs.Failing.{IsFailure}
use Rattle.sql_read.specs.{Failures.IsMet, Failures.IsOutOfMemory, declared.fault.ReadFault.ReadFault, declared.fault.ReadFault.TheVariants.Engine}
use Rattle.sql_read.specs.{declared.fault.ReadFault.TheVariants.NotARow}

-- ---- faults

-- memory was refused
abbrev pub IsOfMemory : ReadFault → Type 0
IsOfMemory (Engine e) = IsOutOfMemory e
IsOfMemory NotARow = ⊥

-- memory was refused, or the disk failed, which then met one more fault
abbrev pub IsOfMemoryOrDisk : State → State → ReadFault → Type 0
IsOfMemoryOrDisk old new (Engine e) = IsFailure e × IsMet old new e
IsOfMemoryOrDisk old new NotARow = ⊥

-- ---- queries

module _ {S : Type 0} (g : Ghosts S) where
  -- over this connection the query fails for memory or the disk alone, and what it shows is such rows
  pub record IsSureQuery (text : List ℕ) (params : Row) (old : Held S) (AreSuch : List Row → Type 0) : Type 0 where
    pub fails : (new : Held S) (e : Error) → FailsToQuery text params (state g old) (state g new) e → IsFailure e
    pub shows : (new : Held S) (rows : List Row) → Shown text params (state g old) (state g new) rows → AreSuch rows

-- the values are of the kinds of these columns, which rows in their limits have
pub record AreTableRows {C R : Type 0} (spelled : Row → C) (Fits : Row → Type 0) (write : R → C) (IsStored : R → Type 0) (rows : List Row) : Type 0 where
  pub fit : All Fits rows
  pub written : List R
  pub stored : EachOf IsStored written
  pub columns : map spelled rows ≡ map write written

-- the first row, where there is one, is a moment
abbrev pub BeginWithMoment : List Row → Type 0
BeginWithMoment [] = ⊤
BeginWithMoment (row ∷ rest) = (m : ℕ) × (row ≡ Int (pos m) ∷ [])
