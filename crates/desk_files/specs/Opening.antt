-- What making and opening the desk of two files gives.
use Rattle.std.specs.Prelude.{◌≡◌, ◌≢◌, ◌⊎◌, [], false, ℕ}
use Rattle.sqlite_disk.specs.declared.Disk as disk
use Rattle.sqlite_disk.specs.declared.Files.{Files}
use Rattle.sqlite_store.specs.declared.store.FileStore.{FileStore}
use Rattle.sqlite.specs.Files.{FailsToOpenFiles, IsCleanLeft, IsEmpty, IsOpened, faults_left, faults_of, file_state, image_of, over_files}
use Rattle.sqlite.specs.{Held.Held, Held.IsNew, Start.FindsIn, Recovery.Image, Tree.Trees, declared.error.Error.Error}
use Rattle.sqlite.specs.{declared.error.Error.TheVariants.SqliteFailure, declared.file.Leftover.Leftover, State.State, State.HasCleanDisk}
use Rattle.sqlite.specs.declared.error.ErrorCode.TheVariants as code
use Rattle.desk_model.specs.{Tables.Tables, Tables.picture, History.first_history, Terms.Terms}
use Rattle.sql_schema.specs.Schema.{no_schema}
use Rattle.store_api.specs.{Sight.Keeps, Sight.Opens, declared.fault.StorageFault.StorageFault}
use Rattle.desk_store.specs.Making.{FailedToMake, IsOfStorage, has_objects}
use Rattle.desk_store.specs.Opening.{FailedToOpen, ShowsKnownFormat, ShowsNewerFormat, ShowsNoLaterFormat}
use Rattle.desk_store.specs.{Causes.cause_of, Desks.AreOfDesk, declared.faults.EngineCause.EngineCause, declared.store.Store.Store}
use Rattle.desk_store.specs.declared.open_fault.OpenFault.{OpenFault, TheVariants.NewerFormat, TheVariants.NotADesk, TheVariants.Storage}
use Rattle.store_api.specs.declared.fault.StorageFault.TheVariants as fault
use Rattle.desk_store.specs.declared.faults.EngineCause.TheVariants as cause
use Rattle.desk_files.specs.LeftFiles.{AreOfOpening, LeftFiles, file_sight, schema_in}

-- memory was refused, or the disk failed
abbrev pub fault_of_files : EngineCause → StorageFault
fault_of_files cause.Memory = fault.Memory
fault_of_files _ = fault.Device

-- the fault of files that the engine does not close
abbrev pub fault_of_close : Error → OpenFault
fault_of_close error = Storage (fault_of_files (cause_of error))

-- the fault of files that the engine refuses
abbrev pub fault_of_refusal : Error → OpenFault
fault_of_refusal (SqliteFailure code.NotADatabase) = NotADesk
fault_of_refusal (SqliteFailure code.DatabaseCorrupt) = NotADesk
fault_of_refusal error = Storage (fault_of_files (cause_of error))

-- the fault comes before an opening commits anything: memory was refused, or what the database holds
abbrev pub IsEarly : OpenFault → Type 0
IsEarly NotADesk = Unit {0}
IsEarly NewerFormat = Unit {0}
IsEarly (Storage fault.Memory) = Unit {0}
IsEarly (Storage _) = ⊥

-- a making that failed: the fault is the store's, and a stop leaves what was there, or the new desk
pub record LeavesNewDesk (policy : Terms) (at : ℕ) (Was : Trees → Type 0) (why : OpenFault) (s : State) : Type 0 where
  pub fault : IsOfStorage why
  pub left : (trees : Trees) → s.may_leave trees → Was trees ⊎ AreOfDesk trees (picture (first_history policy at))

-- a making that found a table, an index or a view: the fault is that, and a stop leaves what was there
pub record IsTaken (Was : Trees → Type 0) (why : OpenFault) (s : State) : Type 0 where
  pub fault : why ≡ NotADesk
  pub left : (trees : Trees) → s.may_leave trees → Was trees

module _ {D : Type 0} {g : disk.Ghosts D} where
  -- ---- what a fault comes from

  -- a connection that was newly opened on these bytes
  pub record Connects (image : Image) (conn : Held (FileStore D g)) : Type 0 where
    pub fresh : IsNew conn
    pub opened : HasCleanDisk (file_state conn) → IsOpened conn
    pub found : HasCleanDisk (file_state conn) → FindsIn image (file_state conn)

  -- the engine refused files with these bytes, which had met no fault, by an error of which the fault is
  pub record RefusedBy (image : Image) (why : OpenFault) (left : Leftover D g) : Type 0 where
    pub error : Error
    pub fault : why ≡ fault_of_refusal error
    pub cause : IsCleanLeft left → (files : Files D) × (image_of g files ≡ image) × (faults_of g files ≡ 0) × FailsToOpenFiles files left error

  -- it opened them, and over that connection no desk was opened, by the fault of the store's opening
  pub record FailedOver (image : Image) (why : OpenFault) (conn : Held (FileStore D g)) : Type 0 where
    pub from : Held (FileStore D g)
    pub connects : Connects image from
    pub failed : FailedToOpen (over_files {g = g}) from conn why
    pub newer : HasCleanDisk (file_state conn) → why ≡ NewerFormat → ShowsNewerFormat (over_files {g = g}) from
    pub no_later : HasCleanDisk (file_state conn) → why ≡ NotADesk → ShowsNoLaterFormat (over_files {g = g}) from

  -- it opened them, and over that connection a desk was opened whose format is no later one
  pub record OpensKnown (image : Image) (store : Store (FileStore D g)) : Type 0 where
    pub from : Held (FileStore D g)
    pub connects : Connects image from
    pub shows : HasCleanDisk (file_state store.conn) → ShowsKnownFormat (over_files {g = g}) from

  -- or none was made, where there was no object, by that of the store's making
  pub record FailedToMakeOver (policy : Terms) (at : ℕ) (image : Image) (why : OpenFault) (conn : Held (FileStore D g)) : Type 0 where
    pub from : Held (FileStore D g)
    pub connects : Connects image from
    pub failed : has_objects (file_state from).now.schema ≡ false → FailedToMake (over_files {g = g}) policy at from conn why

  -- ---- what is there afterwards

  -- whatever desk the bytes held, in either format, the store has it in today's, and a stop leaves that alone
  abbrev pub OpensFiles : Image → Store (FileStore D g) → Type 0
  OpensFiles image store = (file_sight g).is_honest store → (files : LeftFiles) → files.image ≡ image → Opens (file_sight g) files store

  -- where the bytes held a database and the disk met no fault, the fault is the store's
  abbrev pub RefusesNoDatabase : Image → OpenFault → Leftover D g → Type 0
  RefusesNoDatabase image why left = IsCleanLeft left → faults_left left ≡ 0 → (files : LeftFiles) → files.image ≡ image → IsOfStorage why

  -- where the bytes held a desk, in either format, the fault is the store's
  abbrev pub RefusesNoDesk : Image → OpenFault → Held (FileStore D g) → Type 0
  RefusesNoDesk image why conn =
      HasCleanDisk (file_state conn) → (files : LeftFiles) → files.image ≡ image → (T : Tables) → (file_sight g).has files T → IsOfStorage why

  -- a stop leaves the database that the bytes held, or their desk of format 1 in today's format
  abbrev pub LeavesAnOpening : Image → Held (FileStore D g) → Type 0
  LeavesAnOpening image conn =
      HasCleanDisk (file_state conn) → (files : LeftFiles) → files.image ≡ image → (trees : Trees) → (file_state conn).may_leave trees
      → AreOfOpening files trees

  -- after a fault that came early, the database that the bytes held, and no other
  abbrev pub LeavesAsFound : Image → OpenFault → Held (FileStore D g) → Type 0
  LeavesAsFound image why conn =
      IsEarly why → HasCleanDisk (file_state conn) → (files : LeftFiles) → files.image ≡ image → (trees : Trees) → (file_state conn).may_leave trees
      → trees ≡ files.trees

  -- there is the new desk, and that alone
  abbrev pub MakesFiles : Terms → ℕ → Store (FileStore D g) → Type 0
  MakesFiles policy at store = (file_sight g).is_honest store → Keeps (file_sight g) store (picture (first_history policy at))

  -- and there was no object before: whatever database the bytes held had no table, index or view
  abbrev pub FoundNothing : Image → Store (FileStore D g) → Type 0
  FoundNothing image store = (file_sight g).is_honest store → (files : LeftFiles) → files.image ≡ image → schema_in files ≡ no_schema

  -- a making that failed in a database file without bytes leaves an empty database, or the new desk; one in files whose database has no
  -- object leaves that, or the new desk
  pub record FailsToMake (policy : Terms) (at : ℕ) (image : Image) (why : OpenFault) (conn : Held (FileStore D g)) : Type 0 where
    pub empty : HasCleanDisk (file_state conn) → image.db ≡ [] → LeavesNewDesk policy at IsEmpty why (file_state conn)
    pub bare :
        HasCleanDisk (file_state conn) → (files : LeftFiles) → files.image ≡ image → schema_in files ≡ no_schema
        → LeavesNewDesk policy at (λ trees. trees ≡ files.trees) why (file_state conn)

  -- where the database has an object, the fault is that, and a stop leaves the database that the bytes held
  abbrev pub RefusesObjects : Image → OpenFault → Held (FileStore D g) → Type 0
  RefusesObjects image why conn =
      HasCleanDisk (file_state conn) → (files : LeftFiles) → files.image ≡ image → schema_in files ≢ no_schema
      → IsTaken (λ trees. trees ≡ files.trees) why (file_state conn)
