-- What closing the two files of a desk leaves.
use Rattle.std.specs.Prelude.{◌≡◌, []}
use Rattle.sqlite.specs.FileStore as engine
use Rattle.sqlite.specs.{View.IsClean, Recovery.Image, State.HasCleanDisk, WalFiles.outcomes, WalReads.AreClean, declared.error.Error.Error}
use Rattle.sqlite.specs.Files.{FailsToClose, file_state, image_of}
use Rattle.sqlite_disk.specs.declared.Disk as disk
use Rattle.sqlite_disk.specs.declared.Files.{Files}
use Rattle.sqlite_store.specs.declared.store.FileStore.{FileStore}
use Rattle.desk_model.specs.Tables.{Tables}
use Rattle.desk_store.specs.{Desks.HasDesk, declared.open_fault.OpenFault.OpenFault, declared.store.Store.Store}
use Rattle.desk_files.specs.{LeftFiles.HoldDesk, LeftFiles.LeavesFound, Opening.fault_of_close}

-- the desk is in the two files, and in the database file without its log
pub record IsInFile (image : Image) (T : Tables) : Type 0 where
  pub both : HoldDesk image T
  pub alone : HoldDesk (record image { log = [] }) T

-- the desk that the store had is in the file, as it reads now and as a stop leaves it
pub record HasClosed {D : Type 0} (g : disk.Ghosts D) (files : Files D) (T : Tables) : Type 0 where
  pub now : IsInFile (image_of g files) T
  pub left : (image : Image) → outcomes g files.log files.db image → IsInFile image T

module _ {D : Type 0} {g : disk.Ghosts D} where
  -- whatever desk the store had
  abbrev pub KeepsInFile : Store (FileStore D g) → Files D → Type 0
  KeepsInFile store files = AreClean g files.log files.db → (T : Tables) → HasDesk (file_state store.conn) T → HasClosed g files T

  -- a disk that was honest to the end of closing was so before it
  abbrev pub WasHonest : Store (FileStore D g) → Files D → Type 0
  WasHonest store files = AreClean g files.log files.db → HasCleanDisk (file_state store.conn)

  -- the store left its files so: what they hold now, and after a stop, is what a stop could leave of the store
  abbrev pub EndsAsStop : Store (FileStore D g) → Files D → Type 0
  EndsAsStop store files = AreClean g files.log files.db → (image : Image) → outcomes g files.log files.db image → LeavesFound store image

  -- the store's files were given up as they are: whatever bytes a stop then leaves, they hold a database that it could leave of the store
  abbrev pub LeavesAsStop : Store (FileStore D g) → FileStore D g → Type 0
  LeavesAsStop store last = IsClean (engine.view last) → (image : Image) → (engine.state last).may_leave image → LeavesFound store image

  -- the engine did not close them, by an error of which the fault is
  pub record FailedToCloseBy (store : Store (FileStore D g)) (why : OpenFault) (last : FileStore D g) : Type 0 where
    pub error : Error
    pub fault : why ≡ fault_of_close error
    pub cause : IsClean (engine.view last) → FailsToClose store.conn last error
