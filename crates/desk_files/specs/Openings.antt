-- From what a stop left to the next opening.
use Rattle.std.specs.Prelude.{◌≡◌, []}
use Rattle.sqlite_disk.specs.declared.Disk as disk
use Rattle.sqlite_store.specs.declared.store.FileStore.{FileStore}
use Rattle.sqlite.specs.{Files.IsEmpty, Files.IsOpened, Files.file_state, Held.Held, Held.IsNew, Recovery.Image, Start.FindsIn, Tree.Trees}
use Rattle.desk_model.specs.Tables.{Tables}
use Rattle.sql_schema.specs.Schema.{no_schema}
use Rattle.store_api.specs.Sight.{FailsToOpen}
use Rattle.desk_store.specs.{Desks.AreOfDesk, Desks.HasDesk, declared.store.Store.Store}
use Rattle.sql_upgrade.specs.FirstDesks.{HasFirst}
use Rattle.desk_files.specs.Formats.{AreOfFirst}
use Rattle.desk_files.specs.LeftFiles.{AreOfOpening, LeftFiles, IsNumbered, LeavesDesks, LeavesFound, MayLeave, file_sight}

module _ {D : Type 0} (g : disk.Ghosts D) where
  -- whatever bytes a stop leaves of a store that leaves desks, they hold a database that the store's sight lets it leave
  abbrev pub LeftFilesAreFound : Type 0
  LeftFilesAreFound =
      (store : Store (FileStore D g)) → IsNumbered store.conn → LeavesDesks store → (image : Image) → MayLeave store.conn image
      → LeavesFound store image

  -- whatever bytes a stop leaves of a connection that leaves this database alone, they hold it
  abbrev pub KeptFilesAreFound : Type 0
  KeptFilesAreFound =
      (conn : Held (FileStore D g)) (files : LeftFiles) → IsNumbered conn → ((trees : Trees) → (file_state conn).may_leave trees → trees ≡ files.trees)
      → (image : Image) → MayLeave conn image → ∥ ((after : LeftFiles) × (after.image ≡ image) × (after.trees ≡ files.trees)) ∥₁

  -- whatever bytes a stop leaves of an opening of files with a desk, they hold each desk that the files hold, in one of the formats
  abbrev pub UpgradedFilesAreFound : Type 0
  UpgradedFilesAreFound =
      (conn : Held (FileStore D g)) (files : LeftFiles) (T : Tables) → IsNumbered conn → (file_sight g).has files T
      → ((trees : Trees) → (file_state conn).may_leave trees → AreOfOpening files trees) → (image : Image) → MayLeave conn image
      → ∥ ((after : LeftFiles) × (after.image ≡ image) × FailsToOpen (file_sight g) files after) ∥₁

  -- a connection that was newly opened on files with these tables in today's format has them so
  abbrev pub FoundFilesAreOpened : Type 0
  FoundFilesAreOpened =
      (conn : Held (FileStore D g)) (files : LeftFiles) (T : Tables) → IsNew conn → IsOpened conn → FindsIn files.image (file_state conn)
      → AreOfDesk files.trees T → HasDesk (file_state conn) T

  -- and one on files with them in format 1 has them in format 1
  abbrev pub FirstFilesAreOpened : Type 0
  FirstFilesAreOpened =
      (conn : Held (FileStore D g)) (files : LeftFiles) (T : Tables) → IsNew conn → IsOpened conn → FindsIn files.image (file_state conn)
      → AreOfFirst files.trees T → HasFirst (file_state conn) T

  -- a connection that was newly opened on a database file without bytes has no object and no row
  abbrev pub EmptyFilesAreOpened : Type 0
  EmptyFilesAreOpened =
      (conn : Held (FileStore D g)) (image : Image) → image.db ≡ [] → IsOpened conn → FindsIn image (file_state conn)
      → ((file_state conn).now.schema ≡ no_schema) × IsEmpty (file_state conn).committed.trees
