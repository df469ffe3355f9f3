-- From a new connection to the desk that its files held.
use Rattle.std.proofs.Common.{ℕ, Bool, true, false, ◌≡◌, ◌⊎◌, ◌≤◌, ◌∙◌, [], refl, inl, inr, sym, subst, arith}
use Rattle.std.specs.Prelude.{IsTrue}
use Rattle.sqlite_disk.specs.declared.Disk as disk
use Rattle.sqlite_store.specs.declared.store.FileStore.{FileStore}
use Rattle.sqlite.specs.{Files.IsEmpty, Files.IsOpened, Files.file_state, Held.Held, Held.IsNew, Recovery.Image, Start.FindsIn, Tree.Trees, View.doubt}
use Rattle.sqlite.specs.{State.State, State.HasCleanDisk, State.Survives}
use Rattle.desk_model.specs.{Tables.Tables, Terms.Terms}
use Rattle.sql_schema.specs.{Names.uses_key_table, Schema.no_schema, Stays.Asks}
use Rattle.store_api.specs.declared.fault.StorageFault.TheVariants as fault
use Rattle.desk_store.specs.{Opening.IsUpgraded, declared.open_fault.OpenFault.OpenFault}
use Rattle.desk_store.specs.declared.open_fault.OpenFault.TheVariants.{NewerFormat, NotADesk, Storage}
use Rattle.sql_upgrade.specs.FirstDesks.{HasFirst}
use Rattle.desk_files.specs.LeftFiles.{AreOfOpening, LeftFiles, file_sight, schema_in}
use Rattle.desk_files.specs.{Formats.AreOfFirst, Formats.HasEither, Opening.IsEarly, Opening.IsTaken, Opening.LeavesNewDesk}
use Rattle.desk_files.proofs.Finding.{empty_files_are_opened, first_files_are_opened, found_files_are_opened, reads_files}

-- by cases on a test
pub by_cases : (test : Bool) (P : Type 0) → (test ≡ true → P) → (test ≡ false → P) → P
by_cases true P on_true on_false = on_true refl
by_cases false P on_true on_false = on_false refl

-- an opening that failed early committed nothing
pub early_survives : (why : OpenFault) (old new : State) → IsEarly why → ((why ≡ NotADesk) ⊎ (why ≡ NewerFormat) → Asks old new)
    → (why ≡ Storage fault.Memory → Survives old new (λ _. ⊥)) → Survives old new (λ _. ⊥)
early_survives NotADesk old new early refused spared = (refused (inl refl)).survives
early_survives NewerFormat old new early refused spared = (refused (inr refl)).survives
early_survives (Storage fault.Memory) old new early refused spared = spared refl
early_survives (Storage fault.Device) old new early refused spared = absurd early
early_survives (Storage fault.Reopen) old new early refused spared = absurd early

-- then a stop leaves what was committed
pub same_left : (old new : State) → Survives old new (λ _. ⊥) → HasCleanDisk new → ((trees : Trees) → old.may_leave trees → trees ≡ old.committed.trees)
    → (trees : Trees) → new.may_leave trees → trees ≡ old.committed.trees
same_left old new survives clean settled trees may = elim (survives.crash clean trees may) [ inl was ↦ settled trees was | inr none ↦ absurd none ]

-- what was there, said otherwise
pub new_desk_left : (policy : Terms) (at : ℕ) (Was Is : Trees → Type 0) (why : OpenFault) (s : State) → ((trees : Trees) → Was trees → Is trees)
    → LeavesNewDesk policy at Was why s → LeavesNewDesk policy at Is why s
new_desk_left policy at Was Is why s means leaves = record {
  fault = leaves.fault;
  left = λ trees may. elim (leaves.left trees may) [ inl was ↦ inl (means trees was) | inr desk ↦ inr desk ];
}

module _ {D : Type 0} {g : disk.Ghosts D} where
  -- what its files held is what it has
  pub record HasFound (files : LeftFiles) (conn : Held (FileStore D g)) : Type 0 where
    pub is_open : IsTrue (file_state conn).is_open
    pub trees : (file_state conn).committed.trees ≡ files.trees
    pub schema : schema_in files ≡ (file_state conn).now.schema
    pub desk : (T : Tables) → (file_sight g).has files T → HasEither (file_state conn) T
    pub first : (T : Tables) → AreOfFirst files.trees T → HasFirst (file_state conn) T

  -- it is so, where the disk was clean until later
  pub files_found : (image : Image) (conn : Held (FileStore D g)) → IsNew conn → (HasCleanDisk (file_state conn) → IsOpened conn)
      → (HasCleanDisk (file_state conn) → FindsIn image (file_state conn)) → (new : State)
      → doubt (file_state conn).is_clean ≤ doubt new.is_clean → HasCleanDisk new → (files : LeftFiles) → files.image ≡ image → HasFound files conn
  files_found image conn fresh opens finds new le clean files same =
      let early : HasCleanDisk (file_state conn) = omega (arith, le, clean) in
      let opened = opens early in
      let found = subst (λ i. FindsIn i (file_state conn)) (sym same) (finds early) in
      let first : (T : Tables) → AreOfFirst files.trees T → HasFirst (file_state conn) T =
      λ T is. first_files_are_opened conn files T fresh opened found is in
      record {
        is_open = opened.0.is_open;
        trees = found.holds files.trees files.holds;
        schema = (reads_files conn files opened found).schema;
        desk = λ T has. elim has [
          | inl desk ↦ inl (found_files_are_opened conn files T fresh opened found desk)
          | inr is ↦ inr (first T is)
        ];
        first = first;
      }

  -- what a stop leaves of an opening of the connection is what it leaves of one of the files
  pub opening_left : (files : LeftFiles) (conn : Held (FileStore D g)) → HasFound files conn → (trees : Trees)
      → (trees ≡ (file_state conn).committed.trees) ⊎ IsUpgraded (file_state conn) trees → AreOfOpening files trees
  opening_left files conn found trees (inl was) = inl (was ∙ found.trees)
  opening_left files conn found trees (inr is) = inr (record {
    first = subst (λ schema. uses_key_table schema ≡ false) (sym found.schema) is.first;
    desk = λ T first. is.desk T (found.first T first);
  })

  -- what a stop leaves of a connection with an object is what the files held
  pub taken_left : (files : LeftFiles) (conn : Held (FileStore D g)) → HasFound files conn → (why : OpenFault) (new : State)
      → IsTaken (λ trees. trees ≡ (file_state conn).committed.trees) why new → IsTaken (λ trees. trees ≡ files.trees) why new
  taken_left files conn found why new taken = record { fault = taken.fault; left = λ trees may. taken.left trees may ∙ found.trees }

  -- a connection to an empty file
  pub record IsOnNothing (conn : Held (FileStore D g)) : Type 0 where
    pub schema : (file_state conn).now.schema ≡ no_schema
    pub empty : IsEmpty (file_state conn).committed.trees
    pub opened : IsOpened conn

  -- it has no object
  pub nothing_found : (image : Image) (conn : Held (FileStore D g)) → (HasCleanDisk (file_state conn) → IsOpened conn)
      → (HasCleanDisk (file_state conn) → FindsIn image (file_state conn)) → HasCleanDisk (file_state conn) → image.db ≡ [] → IsOnNothing conn
  nothing_found image conn opens finds clean none =
      let opened = opens clean in
      let found = empty_files_are_opened conn image none opened (finds clean) in
      record { schema = found.0; empty = found.1; opened = opened }
