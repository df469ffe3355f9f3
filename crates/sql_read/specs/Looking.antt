-- What a look-up tells of the tables that the database held.
use Rattle.std.specs.Prelude.{◌≡◌, ℕ, List, Result, IfErr, IfOk, OnOk, map}
use Rattle.sqlite.specs.{Order.Row, Store.Ghosts, Held.Held, Held.state, State.HasCleanDisk, State.IsUnchanged, State.Shown}
use Rattle.desk_model.specs.{Kept.EachOf, Tables.Tables}
use Rattle.store_book.specs.IsBook.{IsStoredBook}
use Rattle.sql_schema.specs.Stays.{Asks}
use Rattle.sql_read.specs.LookUpFaults.{AreTableRows, IsOfMemoryOrDisk, IsSureQuery}
use Rattle.sql_read.specs.{Failures.MayRead, Held.ForHeld, declared.fault.ReadFault.ReadFault}

-- whatever a query shows are these rows, and it is sure
pub record Finds {S R C : Type 0} (g : Ghosts S) (spelled : Row → C) (Fits : Row → Type 0) (write : R → C) (IsStored : R → Type 0) (ask : List ℕ × Row)
    (old : Held S) (found : List R) : Type 0 where
  pub shows : (new : Held S) (shown : List Row) (heads : List R) → Shown ask.0 ask.1 (state g old) (state g new) shown → EachOf IsStored heads
      → map spelled shown ≡ map write heads → heads ≡ found
  pub sure : MayRead (state g old) → IsSureQuery g ask.0 ask.1 old (AreTableRows spelled Fits write IsStored)

module _ {S A : Type 0} (g : Ghosts S) (old new : Held S) where
  -- of a desk's tables this was found; of those it failed for memory or the disk alone; it changed nothing
  pub record LooksUp (Is : Tables → A → Type 0) (result : Result A ReadFault) : Type 0 where
    pub found : ForHeld (state g old) (state g new) (λ T. IsStoredBook T → IfOk result (Is T))
    pub caused : ForHeld (state g old) (state g new) (λ T. IsStoredBook T → MayRead (state g old)
        → IfErr result (IsOfMemoryOrDisk (state g old) (state g new)))
    pub unchanged : HasCleanDisk (state g new) → OnOk result (IsUnchanged (state g old) (state g new))
    pub asks : Asks (state g old) (state g new)

  -- so it was of whatever they have that is such
  pub record LooksFor {W : Type 0} (Such : Tables → W → Type 0) (Is : W → A → Type 0) (result : Result A ReadFault) : Type 0 where
    pub found : ForHeld (state g old) (state g new) (λ T. IsStoredBook T → (w : W) → Such T w → IfOk result (Is w))
    pub caused : ForHeld (state g old) (state g new) (λ T. IsStoredBook T → MayRead (state g old) → (w : W) → Such T w
        → IfErr result (IsOfMemoryOrDisk (state g old) (state g new)))
    pub unchanged : HasCleanDisk (state g new) → OnOk result (IsUnchanged (state g old) (state g new))
    pub asks : Asks (state g old) (state g new)
