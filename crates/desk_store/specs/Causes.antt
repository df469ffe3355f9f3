-- Which fault an error of the engine is.
use Rattle.std.specs.Prelude.{◌≡◌, ◌⊎◌, List, false, Option, None, Some}
use Rattle.sqlite_disk.specs.Disk.{MoreFaults}
use Rattle.sqlite.specs.State.{State, Fails, HasCleanDisk}
use Rattle.sqlite.specs.{Held.Held, Held.state, Store.Ghosts, Tree.Trees, declared.error.Error.Error, declared.error.Error.TheVariants.SqliteFailure}
use Rattle.sqlite.specs.declared.error.ErrorCode.TheVariants as code
use Rattle.desk_model.specs.{Kept.EachOf, Tables.Tables, declared.rows.Change.Change}
use Rattle.sql_read.specs.{declared.fault.ReadFault.ReadFault, declared.fault.ReadFault.TheVariants.Engine, declared.fault.ReadFault.TheVariants.NotARow}
use Rattle.sql_write.specs.{Committing.IsBeforeCommit, Numbers.FitsColumns, Refusals.IsCause, Statements.Sql, Statements.save_statements}
use Rattle.sql_write.specs.declared.fault.{SaveFault.SaveFault, SaveFault.TheVariants.Row, SaveFault.TheVariants.Statement, SaveFault.TheVariants.Commit}
use Rattle.sql_schema.specs.Stays.{Asks}
use Rattle.store_api.specs.{Storing.Saving, declared.fault.StorageFault.StorageFault}
use Rattle.store_api.specs.declared.fault.StorageFault.TheVariants as fault
use Rattle.desk_store.specs.declared.open_fault.OpenFault.TheVariants.{NotADesk, Storage}
use Rattle.desk_store.specs.{declared.faults.EngineCause.EngineCause, declared.open_fault.OpenFault.OpenFault}
use Rattle.desk_store.specs.declared.faults.EngineCause.TheVariants as cause
use Rattle.sql_write.specs.declared.fault.WriteFault.TheVariants as write

-- memory, the disk or a size, or anything else
abbrev pub cause_of : Error → EngineCause
cause_of (SqliteFailure code.OutOfMemory) = cause.Memory
cause_of (SqliteFailure code.SystemIoFailure) = cause.Device
cause_of (SqliteFailure code.DatabaseCorrupt) = cause.Device
cause_of (SqliteFailure code.DiskFull) = cause.Device
cause_of (SqliteFailure code.TooBig) = cause.Device
cause_of _ = cause.Other

-- out of memory, the store goes on if its connection is still open
abbrev pub IsOfMemory : StorageFault → Type 0
IsOfMemory f = (f ≡ fault.Memory) ⊎ (f ≡ fault.Reopen)

-- asked whether a word is a statement, which it tells without memory where it is open, the connection failed
abbrev pub IsSilent : State → State → Type 0
IsSilent old new = (e : Error) × Fails old new ⊥ e

module _ {S : Type 0} (g : Ghosts S) where
  -- behind calls that changed nothing the connection, asked so, failed
  pub record IsShut (old new : Held S) : Type 0 where
    pub from : Held S
    pub asked : Asks (state g old) (state g from)
    pub silent : IsSilent (state g from) (state g new)

  -- a look-up tells that the disk failed only where it met one more fault, and to open the store again only where the connection, asked so, failed
  pub record FailsToLookUp (old new : Held S) (why : StorageFault) : Type 0 where
    pub met : HasCleanDisk (state g new) → why ≡ fault.Device → MoreFaults (state g old).faults (state g new).faults
    pub shut : HasCleanDisk (state g new) → why ≡ fault.Reopen → IsShut old new

-- the fault of a statement that failed
abbrev pub IsOfStatement : EngineCause → StorageFault → Type 0
IsOfStatement cause.Memory f = IsOfMemory f
IsOfStatement cause.Device f = f ≡ fault.Device
IsOfStatement cause.Other f = f ≡ fault.Device

-- the fault of a commit that failed
abbrev pub commit_fault : EngineCause → StorageFault
commit_fault cause.Device = fault.Device
commit_fault _ = fault.Reopen

-- the fault of a save that failed
abbrev pub IsOfSave : SaveFault → StorageFault → Type 0
IsOfSave (Row write.Memory) f = IsOfMemory f
IsOfSave (Row write.TooLarge) f = f ≡ fault.Device
IsOfSave (Statement error) f = IsOfStatement (cause_of error) f
IsOfSave (Commit error) f = f ≡ commit_fault (cause_of error)

-- the fault of a reading that failed
abbrev pub IsOfReading : ReadFault → StorageFault → Type 0
IsOfReading (Engine error) f = IsOfStatement (cause_of error) f
IsOfReading NotARow f = f ≡ fault.Device

-- ---- what a call that failed left

-- nothing was written: a stop leaves nothing that it did not leave before
pub record LeavesNothing (old new : State) : Type 0 where
  pub honest : HasCleanDisk new → HasCleanDisk old
  pub left : HasCleanDisk new → (trees : Trees) → new.may_leave trees → old.may_leave trees

-- the fault of the disk comes only where the disk met one more
abbrev pub IsMetFault : State → State → OpenFault → Type 0
IsMetFault old new f = f ≡ Storage fault.Device → MoreFaults old.faults new.faults

-- a reading failed by this fault, and wrote nothing
pub record FailedToRead (old new : State) (why : StorageFault) : Type 0 where
  pub nothing : LeavesNothing old new
  pub met : HasCleanDisk new → IsMetFault old new (Storage why)

module _ {S : Type 0} (g : Ghosts S) where
  -- behind a transaction that ended and left nothing the connection, asked whether a word is a statement, failed
  pub record IsShutBehind (old new : Held S) : Type 0 where
    pub from : Held S
    pub idle : from.in_transaction ≡ false
    pub nothing : LeavesNothing (state g old) (state g from)
    pub silent : IsSilent (state g from) (state g new)

  -- a transaction of these statements failed by this refusal, which has a cause, and of which the fault comes; only a commit may
  -- have written, and before one the store is to be opened again only where the connection, asked so, failed
  pub record FailedToSave (Fits : Type 0) (all : List Sql) (old new : Held S) (why : StorageFault) : Type 0 where
    pub refusal : SaveFault
    pub shut : HasCleanDisk (state g new) → IsBeforeCommit refusal → why ≡ fault.Reopen → IsShutBehind old new
    pub fault : IsOfSave refusal why
    pub cause : IsCause g Fits all old new refusal
    pub before : IsBeforeCommit refusal → LeavesNothing (state g old) (state g new)

  -- changes were not saved, where this part of the tables is known
  abbrev pub FailedToChange : Tables → List Change → Held S → Held S → StorageFault → Type 0
  FailedToChange part changes = FailedToSave (EachOf FitsColumns changes) (save_statements part changes)

  -- a look-up failed, and wrote nothing; or a saving failed, of a store that was in no transaction
  abbrev pub Failed : Option Saving → Held S → Held S → StorageFault → Type 0
  Failed None old new why = LeavesNothing (state g old) (state g new)
  Failed (Some saving) old new why =
      old.in_transaction ≡ false → FailedToChange saving.part saving.changes old new why

-- the fault of a reading that failed in opening: of memory, the disk or a size it is the store's, else there is no desk
abbrev pub IsOfOpening : EngineCause → OpenFault → Type 0
IsOfOpening cause.Memory f = (f ≡ Storage fault.Memory) ⊎ (f ≡ Storage fault.Reopen)
IsOfOpening cause.Device f = f ≡ Storage fault.Device
IsOfOpening cause.Other f = f ≡ NotADesk
