-- What a stop left is what the next opening finds.
use Rattle.std.proofs.Common.{true, ◌≡◌, refl, inl, inr, sym, subst, ◌∙◌, ap, length, arith}
use Rattle.std.proofs.Math.Logic.{∥∥₁_map}
use Rattle.sqlite_disk.specs.declared.Disk as disk
use Rattle.sqlite_store.specs.declared.store.FileStore.{FileStore}
use Rattle.sqlite_catalog.proofs.ReadLemmas.{lists_once}
use Rattle.sqlite_catalog.specs.Listing.{IsSound, Lists}
use Rattle.sqlite_trees.specs.Objects.{catalog_tree}
use Rattle.sqlite.specs.Files.{IsEmpty, IsOpened, file_state}
use Rattle.sqlite.specs.{Effect.Database, Effect.IsDatabase, FileStore.recovers, Schema.Schema, Start.FindsIn, Tree.Trees, Held.AreDatabases, Held.Held}
use Rattle.sqlite.proofs.{ListingLemmas.empty_is_sound, Theorems.opens_again}
use Rattle.desk_model.specs.Tables.{Tables}
use Rattle.sql_schema.specs.{Names.uses_key_table, Schema.no_schema}
use Rattle.store_api.specs.Sight.{Sight, Keeps}
use Rattle.desk_store.specs.{Desks.AreOfDesk, Desks.IsDesk, declared.store.Store.Store}
use Rattle.desk_store.proofs.EitherFormat.{not_both, uses_keys}
use Rattle.sql_tables.proofs.Holding.{same_database}
use Rattle.sql_upgrade.specs.FirstDesks.{IsFirstDesk}
use Rattle.desk_files.specs.{Formats.AreOfEither, Openings.UpgradedFilesAreFound}
use Rattle.desk_files.specs.LeftFiles.{AreOfOpening, LeavesDesks, LeftFiles, schema_in, sight_within}
use Rattle.desk_files.specs.Openings.{EmptyFilesAreOpened, FirstFilesAreOpened, FoundFilesAreOpened, KeptFilesAreFound, LeftFilesAreFound}

-- what keeps tables keeps them in all that a stop leaves
pub keeps_within : {S C B : Type 0} (part : B → C) (has_in : B → Tables → Type 0) (v : Sight S C)
    → ((b : B) (T : Tables) → v.has (part b) T → has_in b T)
    → (s : S) (T : Tables) → Keeps v s T → Keeps (sight_within part has_in v) s T
keeps_within part has_in v widens s T keeps = record { tables = keeps; left = λ b leaves. widens b T (keeps.left (part b) leaves) }

-- files with a desk in today's format have it in one of the two
pub in_todays : (files : LeftFiles) (T : Tables) → AreOfDesk files.trees T → AreOfEither files.trees T
in_todays files T desk = inl desk

-- ---- databases

-- trees have one schema
one_schema : (trees : Trees) (schema : Schema) (db : Database) → trees ≡ db.trees → IsSound schema trees → IsDatabase db → schema ≡ db.schema
one_schema trees schema db same sound is =
    lists_once (trees catalog_tree) schema db.schema sound.lists (subst (λ (t : Trees). Lists (t catalog_tree) db.schema) (sym same) is.lists)

-- the trees of a desk are those of a database
is_database : (trees : Trees) (T : Tables) → AreOfEither trees T → (schema : Schema) × IsSound schema trees
is_database trees T (inl desk) = (desk.0.schema, subst (IsSound desk.0.schema) (sym desk.1) desk.2.holds.sound)
is_database trees T (inr first) = (first.0.schema, subst (IsSound first.0.schema) (sym first.1) first.2.holds.sound)

-- files with a desk in today's format have the table of keys
has_key_table : (files : LeftFiles) (T : Tables) → AreOfDesk files.trees T → uses_key_table (schema_in files) ≡ true
has_key_table files T desk =
    uses_keys (schema_in files) (one_schema files.trees (schema_in files) desk.0 desk.1 files.holds.2.sound desk.2.holds.sound ∙ desk.2.holds.schema)

-- what an opening leaves has each desk of the files
pub desk_kept : (files : LeftFiles) (trees : Trees) → AreOfOpening files trees → (T : Tables) → AreOfEither files.trees T → AreOfEither trees T
desk_kept files trees (inl same) T has = subst (λ t. AreOfEither t T) (sym same) has
desk_kept files trees (inr is) T (inl desk) = not_both _ _ refl (has_key_table files T desk) is.first
desk_kept files trees (inr is) T (inr first) = inl (is.desk T first)

-- of files with a desk in today's format it leaves what they hold
pub opening_keeps : (files : LeftFiles) (trees : Trees) (T : Tables) → AreOfDesk files.trees T → AreOfOpening files trees → trees ≡ files.trees
opening_keeps files trees T desk (inl same) = same
opening_keeps files trees T desk (inr is) = not_both _ _ refl (has_key_table files T desk) is.first

-- ---- what a stop left

module _ {D : Type 0} {g : disk.Ghosts D} where
  -- what a stop leaves of desks are databases
  are_databases : (store : Store (FileStore D g)) → LeavesDesks store → AreDatabases (recovers store.conn.store)
  are_databases store desks trees may = let of_desk = desks trees may in is_database trees of_desk.0 (inl of_desk.1)

  pub left_files_are_found : LeftFilesAreFound g
  left_files_are_found store numbered desks image may =
      ∥∥₁_map (opens_again store.conn.store numbered (are_databases store desks) image may) (λ found.
      (record { image = image; trees = found.0; holds = found.2 }, refl, found.1))

  pub kept_files_are_found : KeptFilesAreFound g
  kept_files_are_found conn files numbered same image may =
      let databases : AreDatabases (recovers conn.store) = λ trees leaves.
      (files.holds.2.schema, subst (IsSound files.holds.2.schema) (sym (same trees leaves)) files.holds.2.sound) in
      ∥∥₁_map (opens_again conn.store numbered databases image may) (λ found.
      (record { image = image; trees = found.0; holds = found.2 }, refl, same found.0 found.1))

  pub upgraded_files_are_found : UpgradedFilesAreFound g
  upgraded_files_are_found conn files T numbered has leaves image may =
      let databases : AreDatabases (recovers conn.store) = λ trees left. is_database trees T (desk_kept files trees (leaves trees left) T has) in
      ∥∥₁_map (opens_again conn.store numbered databases image may) (λ found.
      (record { image = image; trees = found.0; holds = found.2 }, refl, desk_kept files found.0 (leaves found.0 found.1)))

  -- ---- what an opening finds

  -- a connection that was newly opened reads the database of the files
  pub record ReadsFiles (conn : Held (FileStore D g)) (files : LeftFiles) : Type 0 where
    pub trees : (file_state conn).now.trees ≡ files.trees
    pub sound : IsDatabase (file_state conn).now
    pub schema : schema_in files ≡ (file_state conn).now.schema

  -- it is so
  pub reads_files : (conn : Held (FileStore D g)) (files : LeftFiles) → IsOpened conn → FindsIn files.image (file_state conn) → ReadsFiles conn files
  reads_files conn files opened found =
      let now = (file_state conn).now in
      let sound = (opened.1 opened.0.is_open).0 in
      let same : now.trees ≡ files.trees = ap (λ (db : Database). db.trees) opened.0.clean ∙ found.holds files.trees files.holds in
      record { trees = same; sound = sound; schema = one_schema files.trees (schema_in files) now (sym same) files.holds.2.sound sound }

  -- and what holds of a database with their trees
  found_database : (conn : Held (FileStore D g)) (files : LeftFiles) (db : Database) → ReadsFiles conn files → files.trees ≡ db.trees → IsDatabase db
      → db ≡ (file_state conn).now
  found_database conn files db reads same sound = same_database db (file_state conn).now (sym (reads.trees ∙ same)) sound reads.sound

  pub found_files_are_opened : FoundFilesAreOpened g
  found_files_are_opened conn files T fresh opened found has =
      let now = found_database conn files has.0 (reads_files conn files opened found) has.1 has.2.holds.sound in
      let desk = subst (λ db. IsDesk db T) now has.2 in
      record { is_open = opened.0.is_open; idle = opened.0.autocommit; unlimited = fresh.unlimited; settled = opened.0.clean; desk = desk }

  pub first_files_are_opened : FirstFilesAreOpened g
  first_files_are_opened conn files T fresh opened found has =
      let now = found_database conn files has.0 (reads_files conn files opened found) has.1 has.2.holds.sound in
      let desk = subst (λ db. IsFirstDesk db T) now has.2 in
      record { is_open = opened.0.is_open; idle = opened.0.autocommit; unlimited = fresh.unlimited; settled = opened.0.clean; desk = desk }

  -- trees without an object have no other schema
  pub empty_files_are_opened : EmptyFilesAreOpened g
  empty_files_are_opened conn image none opened found =
      let opens = opened.0 in
      let live = opened.1 opens.is_open in
      let empty : IsEmpty (file_state conn).committed.trees = elim found.reads [
        | inl some ↦ absurd (let present = some.3.found.present in omega (arith, present, ap length none))
        | inr nothing ↦ nothing.1
      ] in
      let catalog = ap (λ (db : Database). db.trees catalog_tree) opens.clean ∙ empty.1 in
      (lists_once _ (file_state conn).now.schema no_schema live.0.lists (empty_is_sound (file_state conn).now.trees catalog).lists, empty)
