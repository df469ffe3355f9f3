-- Why a reading of a desk's tables fails.
use Rattle.std.specs.Prelude.{◌≡◌, ◌⊎◌, ℕ, All, Bool, true, false, IsTrue, List, [], None}
use Rattle.sqlite.specs.State.{State, FailsToQuery, Shown}
use Rattle.sqlite.specs.declared.error.ErrorCode.TheVariants.{DatabaseCorrupt, DiskFull, OutOfMemory, SystemIoFailure, TooBig}
use Rattle.sqlite.specs.{Held.Held, Held.state, Order.Row, Store.Ghosts, declared.error.Error.Error, declared.error.Error.TheVariants.SqliteFailure}
use Rattle.sqlite_disk.specs.Disk.{MoreFaults}
use Rattle.store_columns.specs.{Columns.rows_columns, Flat.flat, TextColumns.ColumnsAreTexts}
use Rattle.desk_model.specs.Tables.{Tables}
use Rattle.sql_schema.specs.Failing.{IsFailure}

-- memory was refused
abbrev pub IsOutOfMemory : Error → Type 0
IsOutOfMemory e = e ≡ SqliteFailure OutOfMemory

-- an error of the disk, or of a size
abbrev pub is_of_device : Error → Bool
is_of_device (SqliteFailure SystemIoFailure) = true
is_of_device (SqliteFailure DatabaseCorrupt) = true
is_of_device (SqliteFailure DiskFull) = true
is_of_device (SqliteFailure TooBig) = true
is_of_device _ = false

-- an error of neither, as those of a value are that has another kind
abbrev pub IsOfNoDevice : Error → Type 0
IsOfNoDevice e = is_of_device e ≡ false

-- a reading has an error of the disk only where the disk met one more fault
abbrev pub IsMet : State → State → Error → Type 0
IsMet old new e = IsTrue (is_of_device e) → MoreFaults old.faults new.faults

-- the connection is open, and its queries may take as many steps as they need
pub record MayRead (s : State) : Type 0 where
  pub is_open : IsTrue s.is_open
  pub unlimited : s.step_limit ≡ None

-- the texts of the rows are UTF-8, as those of each legal history are
abbrev pub HasTexts : Tables → Type 0
HasTexts T = ColumnsAreTexts (rows_columns (flat T))

-- the query failed, or it showed rows, and where each of these fits there was no memory for what was read
abbrev pub FailsToRead : List ℕ → Row → State → State → (Row → Type 0) → Error → Type 0
FailsToRead text params old new Fits e =
    FailsToQuery text params old new e ⊎ ((rows : List Row) × Shown text params old new rows × (All Fits rows → IsOutOfMemory e))

-- over the database of the connection a reading by this text failed so
pub record FailsHere {S : Type 0} (g : Ghosts S) (here : Held S) (text : List ℕ) (Fits : Row → Type 0) (e : Error) : Type 0 where
  pub before : Held S
  pub after : Held S
  pub same : (state g before).now ≡ (state g here).now
  pub fails : FailsToRead text [] (state g before) (state g after) Fits e

-- wherever the database is as it is here and may be read, this reading fails for memory or the disk alone
abbrev pub IsReadable : {S : Type 0} → Ghosts S → Held S → List ℕ → (Row → Type 0) → Type 0
IsReadable {S} g here text Fits =
    (before after : Held S) (e : Error) → (state g before).now ≡ (state g here).now → MayRead (state g before)
    → FailsToRead text [] (state g before) (state g after) Fits e → IsFailure e
