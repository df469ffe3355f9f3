-- The two files of a desk: what a stop leaves of them, and what may be said of a store over them.
use Rattle.std.specs.Prelude.{◌≡◌, ◌⊎◌, false, IsTrue}
use Rattle.sqlite_disk.specs.declared.Disk as disk
use Rattle.sqlite_store.specs.declared.store.FileStore.{FileStore}
use Rattle.sqlite.specs.FileStore as engine
use Rattle.sqlite.specs.{Files.HoldsDatabase, Files.over_files, Held.Held, Recovery.Image, Schema.Schema, Tree.Trees}
use Rattle.desk_model.specs.Tables.{Tables}
use Rattle.sql_schema.specs.Names.{uses_key_table}
use Rattle.store_api.specs.Sight.{Sight, Keeps}
use Rattle.desk_store.specs.{Desks.AreOfDesk, Desks.store_sight, declared.store.Store.Store}
use Rattle.desk_files.specs.Formats.{AreOfEither, AreOfFirst}

-- the bytes of the database file and of its log, and the database that they hold
pub record LeftFiles : Type 0 where
  pub image : Image
  pub trees : Trees
  pub holds : HoldsDatabase image trees

-- its tables and indexes
abbrev pub schema_in : LeftFiles → Schema
schema_in files = files.holds.2.schema

-- the files lack the table of keys, and these trees have in today's format whatever desk the files hold in format 1
pub record AreUpgraded (files : LeftFiles) (trees : Trees) : Type 0 where
  pub first : uses_key_table (schema_in files) ≡ false
  pub desk : (T : Tables) → AreOfFirst files.trees T → AreOfDesk trees T

-- an opening leaves of the files what they hold, or their desk of format 1 in today's
abbrev pub AreOfOpening : LeftFiles → Trees → Type 0
AreOfOpening files trees = (trees ≡ files.trees) ⊎ AreUpgraded files trees

-- these bytes hold the desk with these tables, in today's format
abbrev pub HoldDesk : Image → Tables → Type 0
HoldDesk image T = ∥ ((files : LeftFiles) × (files.image ≡ image) × AreOfDesk files.trees T) ∥₁

-- what may be said of a store by a part of its content: the store has tables where it keeps them, and the content has those that it is said to
abbrev pub sight_within : {S C B : Type 0} → (B → C) → (B → Tables → Type 0) → Sight S C → Sight S B
sight_within part has_in v = record {
  is_honest = v.is_honest;
  holds = Keeps v;
  leaves = λ s b. v.leaves s (part b);
  has = has_in;
  fails = v.fails;
}

-- the files have these tables, in either format
abbrev pub files_have : LeftFiles → Tables → Type 0
files_have files T = AreOfEither files.trees T

-- what may be said of a store over two files: it has tables in today's format, and a stop leaves files with a database that the engine
-- lets it leave, which may hold a desk in either
abbrev pub file_sight : {D : Type 0} (g : disk.Ghosts D) → Sight (Store (FileStore D g)) LeftFiles
file_sight g = sight_within (λ (files : LeftFiles). files.trees) files_have (store_sight (over_files {g = g}))

module _ {D : Type 0} {g : disk.Ghosts D} where
  -- a stop now may leave these bytes
  abbrev pub MayLeave : Held (FileStore D g) → Image → Type 0
  MayLeave conn = (engine.state conn.store).may_leave

  -- each tree has the number that its row of sqlite_schema says: a connection keeps this of its store, and no call says so
  abbrev pub IsNumbered : Held (FileStore D g) → Type 0
  IsNumbered conn = IsTrue (engine.view conn.store).is_numbered

  -- a stop leaves the tables of desks, in today's format
  abbrev pub LeavesDesks : Store (FileStore D g) → Type 0
  LeavesDesks store = (trees : Trees) → (store_sight (over_files {g = g})).leaves store trees → (T : Tables) × AreOfDesk trees T

  -- these bytes hold a database that a stop may leave
  abbrev pub LeavesFound : Store (FileStore D g) → Image → Type 0
  LeavesFound store image = ∥ ((files : LeftFiles) × (files.image ≡ image) × (file_sight g).leaves store files) ∥₁
