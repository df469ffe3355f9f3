-- What an opening finds, and what it leaves.
use Rattle.std.specs.Prelude.{◌≡◌, ◌≢◌, ◌⊎◌, Err, IfErr, IsTrue, OnErr, OnOk, Result, false}
use Rattle.sqlite.specs.State.{State, HasCleanDisk, IsUnchanged, Survives}
use Rattle.sqlite.specs.{Held.Held, Held.state, Store.Ghosts, Tree.Trees, declared.error.Error.Error}
use Rattle.store_columns.specs.declared.columns.StoredRows.{StoredRows}
use Rattle.desk_model.specs.Tables.{Tables}
use Rattle.sql_read.specs.{AllTables.FailsAtFirst, AllTables.FailsAtTable, First.AreFirstShown, Failures.MayRead, Shown.AreShown, Only.ShowsOnlyBook}
use Rattle.sql_read.specs.{Only.ShowsOnlyFirstBook, Format.FailsToShowFormat, Format.IsNewer, Format.IsOfLaterFormat, Format.ShowsFormats}
use Rattle.sql_write.specs.{Committing.GoesBack, Numbers.FitsUpgrade, Statements.upgrade_statements}
use Rattle.sql_schema.specs.{Names.has_all_indexes, Names.uses_key_table, Stays.Asks}
use Rattle.store_api.specs.declared.fault.{StorageFault.StorageFault, StorageFault.TheVariants.Memory}
use Rattle.desk_store.specs.Causes.{FailedToRead, FailedToSave, IsMetFault, LeavesNothing, cause_of}
use Rattle.desk_store.specs.declared.open_fault.OpenFault.TheVariants.{NewerFormat, NotADesk, Storage}
use Rattle.desk_store.specs.{Desks.AreOfDesk, Desks.HasDesk, Making.IsOfStorage, declared.open_fault.OpenFault.OpenFault}
use Rattle.desk_store.specs.declared.faults.EngineCause.TheVariants as cause
use Rattle.sql_upgrade.specs.{FirstDesks.HasFirst, FirstDesks.HasSecond, FirstDesks.IsAdded, declared.additions.Additions.Additions}
use Rattle.store_book.specs.IsBook.{IsBookOfStored}

-- a reading failed so, for what is neither memory nor the disk
pub record RefusesReading (Fails : Error → Type 0) : Type 0 where
  pub error : Error
  pub fails : Fails error
  pub other : cause_of error ≡ cause.Other

module _ {S : Type 0} (g : Ghosts S) where
  -- the rows that the database showed, of all tables and columns, are those of this book
  pub record ShowsBook (conn : Held S) (book : Tables) : Type 0 where
    pub stored : StoredRows
    pub shown : AreShown g conn stored
    pub is_book : IsBookOfStored stored book

  -- no table, no column and no index is missing, and the rows are a book's
  pub record IsWhole (conn : Held S) : Type 0 where
    pub indexes : IsTrue (has_all_indexes (state g conn).now.schema)
    pub book : Tables
    pub shows : ShowsBook conn book

  -- the rows that it showed of format 1, with zeros in the place of the keys of answers, are those of this book
  pub record ShowsFirstBook (conn : Held S) (book : Tables) : Type 0 where
    pub stored : StoredRows
    pub shown : AreFirstShown g conn stored
    pub is_book : IsBookOfStored stored book

  -- no table of format 1, no column and no index is missing, and the rows are a book's
  pub record IsWholeFirst (conn : Held S) : Type 0 where
    pub indexes : IsTrue (has_all_indexes (state g conn).now.schema)
    pub book : Tables
    pub shows : ShowsFirstBook conn book

  -- asked for the formats in `meta`, the database showed one row whose format is a later one
  abbrev pub ShowsNewerFormat : Held S → Type 0
  ShowsNewerFormat conn = (after : Held S) × ShowsFormats (state g conn) (state g after) IsNewer

  -- it showed anything else
  abbrev pub ShowsKnownFormat : Held S → Type 0
  ShowsKnownFormat conn = (after : Held S) × ShowsFormats (state g conn) (state g after) (λ rows. ¬ IsNewer rows)

  -- it refused the query, for what is neither memory nor the disk
  pub record RefusesFormat (conn : Held S) : Type 0 where
    pub after : Held S
    pub error : Error
    pub refused : FailsToShowFormat (state g conn) (state g after) error
    pub other : cause_of error ≡ cause.Other

  -- the reading of a table was refused, or no book's rows, by key, are all that the database shows
  abbrev pub ShowsNoBook : Held S → Type 0
  ShowsNoBook conn = RefusesReading (FailsAtTable g conn) ⊎ ((book : Tables) → ShowsOnlyBook g (state g conn).now book → ⊥)

  -- so it is of the tables of format 1
  abbrev pub ShowsNoFirstBook : Held S → Type 0
  ShowsNoFirstBook conn = RefusesReading (FailsAtFirst g conn) ⊎ ((book : Tables) → ShowsOnlyFirstBook g (state g conn).now book → ⊥)

  -- what the database lacks to be a desk: an index, or a book in the format that its table of keys tells
  abbrev pub ShowsNoDesk : Held S → Type 0
  ShowsNoDesk conn =
      (has_all_indexes (state g conn).now.schema ≡ false)
      ⊎ ((IsTrue (uses_key_table (state g conn).now.schema) × ShowsNoBook conn)
      ⊎ ((uses_key_table (state g conn).now.schema ≡ false) × ShowsNoFirstBook conn))

  -- it showed no later format: a known one, something else, or none
  abbrev pub ShowsNoLaterFormat : Held S → Type 0
  ShowsNoLaterFormat conn = ShowsKnownFormat conn ⊎ RefusesFormat conn

-- what a reading of all rows says and leaves, where a desk in its format is one that a connection `Has`, and the rows that it showed are those of
-- a book (`Shows`), or of none (`Lacks`)
pub record ReadsRows {S R : Type 0} (g : Ghosts S) (Has : State → Tables → Type 0) (Shows Lacks : Held S → Type 0) (old new : Held S)
    (result : Result R OpenFault) : Type 0 where
  pub shown : HasCleanDisk (state g new) → OnOk result (Shows old)
  pub no_newer : result ≢ Err NewerFormat
  pub no_desk : HasCleanDisk (state g new) → result ≡ Err NotADesk → Lacks old
  pub unchanged : HasCleanDisk (state g new) → OnOk result (IsUnchanged (state g old) (state g new))
  pub desk : HasCleanDisk (state g new) → IfErr result (λ why. (T : Tables) → Has (state g old) T → IsOfStorage why)
  pub met : HasCleanDisk (state g new) → IfErr result (IsMetFault (state g old) (state g new))
  pub answering : HasCleanDisk (state g new) → result ≡ Err (Storage Memory) → IsTrue (state g new).is_open
  pub asks : Asks (state g old) (state g new)

-- of today's format
abbrev pub ReadsDesk : {S R : Type 0} → Ghosts S → Held S → Held S → Result R OpenFault → Type 0
ReadsDesk g old new result = ReadsRows g HasDesk (λ conn. (book : Tables) × ShowsBook g conn book) (ShowsNoBook g) old new result

-- of format 1
abbrev pub ReadsFirst : {S R : Type 0} → Ghosts S → Held S → Held S → Result R OpenFault → Type 0
ReadsFirst g old new result = ReadsRows g HasFirst (λ conn. (book : Tables) × ShowsFirstBook g conn book) (ShowsNoFirstBook g) old new result

-- an open connection without a limit on steps has the tables of a desk and one row of `meta`, of a later format
pub record HasLaterFormat (s : State) : Type 0 where
  pub may_read : MayRead s
  pub later : IsOfLaterFormat s.now

module _ {S : Type 0} (g : Ghosts S) where
  -- the transaction that makes today's format of format 1, by what is added to it, was not saved
  abbrev pub FailedToWiden : Additions → Held S → Held S → StorageFault → Type 0
  FailedToWiden additions =
      FailedToSave g (FitsUpgrade additions.meta additions.keys.items) (upgrade_statements additions.meta additions.keys.items)

  -- the same behind readings, by which these are the additions to whatever desk was there
  pub record FailedToUpgrade (old new : Held S) (why : StorageFault) : Type 0 where
    pub from : Held S
    pub asked : Asks (state g old) (state g from)
    pub additions : Additions
    pub added : HasCleanDisk (state g from) → (T : Tables) → HasFirst (state g old) T → IsAdded additions T
    pub save : FailedToWiden additions from new why

  -- an opening failed: a reading did, or the store in the upgrade; or the database is refused, and nothing was written
  abbrev pub FailedToOpen : Held S → Held S → OpenFault → Type 0
  FailedToOpen old new (Storage why) = FailedToRead (state g old) (state g new) why ⊎ FailedToUpgrade old new why
  FailedToOpen old new NotADesk = LeavesNothing (state g old) (state g new)
  FailedToOpen old new NewerFormat = LeavesNothing (state g old) (state g new)

-- of a database without the table of keys: whatever desk the connection had in format 1, the trees are those of the same desk in today's format
pub record IsUpgraded (old : State) (trees : Trees) : Type 0 where
  pub first : uses_key_table old.now.schema ≡ false
  pub desk : (T : Tables) → HasFirst old T → AreOfDesk trees T

-- what an opening does and leaves, where the tables are not of a later format
pub record OpensKnown {S R : Type 0} (g : Ghosts S) (old new : Held S) (result : Result R OpenFault) : Type 0 where
  pub asks : IsTrue (uses_key_table (state g old).now.schema) → Asks (state g old) (state g new)
  pub unchanged : IsTrue (uses_key_table (state g old).now.schema) → HasCleanDisk (state g new) → OnOk result (IsUnchanged (state g old) (state g new))
  pub upgraded : HasCleanDisk (state g new) → OnOk result ((T : Tables) → HasFirst (state g old) T → HasSecond (state g new) T)
  pub back : (state g old).now ≡ (state g old).committed → HasCleanDisk (state g new) → OnErr result (GoesBack (state g old) (state g new))
  pub left : Survives (state g old) (state g new) (IsUpgraded (state g old))
  pub spared : result ≡ Err (Storage Memory) → Survives (state g old) (state g new) (λ _. ⊥)
  pub whole : HasCleanDisk (state g new) → OnOk result (IsTrue (uses_key_table (state g old).now.schema) → IsWhole g old)
  pub whole_first : HasCleanDisk (state g new) → OnOk result (uses_key_table (state g old).now.schema ≡ false → IsWholeFirst g old)
  pub desk : HasCleanDisk (state g new) → IfErr result (λ why. (T : Tables) → HasDesk (state g old) T → IsOfStorage why)
  pub first : HasCleanDisk (state g new) → IfErr result (λ why. (T : Tables) → HasFirst (state g old) T → IsOfStorage why)
  pub failed : IfErr result (FailedToOpen g old new)
  pub answering : HasCleanDisk (state g new) → result ≡ Err (Storage Memory) → IsTrue (state g new).is_open
