-- What is so of a desk whose store was made or opened, and then adopted.
use Rattle.std.proofs.Common.{◌≡◌, ◌⊎◌, ℕ, Ok, inl, inr, arith}
use Rattle.std.specs.Prelude.{IsTrue}
use Rattle.desk_model.specs.{History.first_history, Terms.Terms, Tables.Tables, Tables.picture}
use Rattle.sql_schema.specs.Stays.{Asks}
use Rattle.store_api.specs.Sight.{Keeps, Reads}
use Rattle.desk_store.proofs.NothingWritten.{desk_stays}
use Rattle.desk_store.specs.{Desks.store_sight, declared.open_fault.OpenFault.OpenFault, declared.store.Store.Store, Making.IsMade, Making.IsOfStorage}
use Rattle.desk_store.specs.{declared.open_fault.OpenFault.TheVariants.NewerFormat, declared.open_fault.OpenFault.TheVariants.NotADesk}
use Rattle.sqlite.specs.{State.State, State.HasCleanDisk, State.Survives, Held.Held, Held.state, Store.Ghosts, Tree.Trees}
use Rattle.desk_files.specs.StoredDesks.{FailedToAsk, Leaves}

-- ---- what a stop leaves

-- what survives a making or an opening is left
pub survived : (old new : State) (Commits : Trees → Type 0) → Survives old new Commits → Leaves old new Commits
survived old new Commits s = record { honest = λ clean. omega (arith, s.clean); left = s.crash }

-- a disk that is clean after a call that only asked was clean before it
pub clean_before : (old new : State) → Asks old new → HasCleanDisk new → HasCleanDisk old
clean_before old new asked clean = let le = asked.survives.clean in omega (arith, clean, le)

-- a call that only asked leaves no more than there was
pub left_before : (old new : State) (trees : Trees) → Asks old new → HasCleanDisk new → new.may_leave trees → old.may_leave trees
left_before old new trees asked clean may = elim (asked.survives.crash clean trees may) [ inl was ↦ was | inr none ↦ absurd none ]

-- what was left, and then no more, is left
pub left_on : (old mid new : State) (Commits : Trees → Type 0) → Leaves old mid Commits → Asks mid new → Leaves old new Commits
left_on old mid new Commits one asked = record {
  honest = λ clean. one.honest (clean_before mid new asked clean);
  left = λ clean trees may. one.left (clean_before mid new asked clean) trees (left_before mid new trees asked clean may);
}

-- a desk that was made is there as long as the connection is open
pub still_made : {S : Type 0} (g : Ghosts S) (policy : Terms) (at : ℕ) (made : Store S) (new : State)
    → Keeps (store_sight g) made (picture (first_history policy at)) → Asks (state g made.conn) new → HasCleanDisk new → IsTrue new.is_open
    → IsMade policy at new
still_made g policy at made new keeps asked clean is_open = record {
  desk = desk_stays (state g made.conn) new (picture (first_history policy at)) is_open asked clean keeps.tables.desk;
  left = λ trees may. keeps.left trees (left_before (state g made.conn) new trees asked clean may);
}

-- a store that was read keeps its tables
pub reads_keeps : {S R : Type 0} (g : Ghosts S) (old new : Store S) (read : R) (T : Tables) → HasCleanDisk (state g new.conn)
    → Reads (store_sight g) old new (Ok read) → Keeps (store_sight g) old T → Keeps (store_sight g) new T
reads_keeps g old new read T clean reads keeps = record {
  tables = reads.tables clean T keeps.tables;
  left = λ c may. keeps.left c (reads.left clean c may);
}

-- ---- faults

-- a store that failed is the store's failure
pub of_storage : {S : Type 0} (g : Ghosts S) (old new : Held S) (f : OpenFault) → FailedToAsk g old new f → IsOfStorage f
of_storage g old new f failed = (failed.why, failed.fault)

-- a fault of the store is neither of the two of what the database holds
pub not_newer : {P : Type 0} (f : OpenFault) → IsOfStorage f → f ≡ NewerFormat → P
not_newer f is newer = absurd (cc (newer, is.1))

pub not_refused : {P : Type 0} (f : OpenFault) → IsOfStorage f → (f ≡ NotADesk) ⊎ (f ≡ NewerFormat) → P
not_refused f is (inl none) = absurd (cc (none, is.1))
not_refused f is (inr newer) = not_newer f is newer
