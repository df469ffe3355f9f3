-- What a call that failed left.
use Rattle.std.proofs.lemmas.Result.{IfErr-weaker}
use Rattle.std.proofs.Common.{◌≡◌, List, false, None, Result, Ok, Err, inl, inr, arith}
use Rattle.std.specs.Prelude.{IfErr}
use Rattle.sqlite.specs.{Held.Held, Held.state, State.State, State.HasCleanDisk, State.Survives, Store.Ghosts}
use Rattle.desk_model.specs.Tables.{Tables}
use Rattle.sql_write.specs.{Committing.IsBeforeCommit, Refusals.IsCause, Statements.Sql, declared.fault.SaveFault.SaveFault}
use Rattle.sql_write.proofs.{Exits.survives_both, Told.cause_then}
use Rattle.sql_schema.proofs.StaysLemmas.{asks_then}
use Rattle.sql_schema.specs.Stays.{Asks}
use Rattle.sql_upgrade.specs.FirstDesks.{HasFirst}
use Rattle.store_api.specs.{Sight.Reads, declared.fault.StorageFault.StorageFault}
use Rattle.store_api.specs.declared.fault.StorageFault.TheVariants as storagefault
use Rattle.desk_store.specs.Causes.{Failed, FailedToSave, IsMetFault, IsOfSave, IsSilent, LeavesNothing}
use Rattle.desk_store.specs.{Desks.store_sight, Opening.FailedToOpen, Opening.FailedToUpgrade, declared.store.Store.Store}
use Rattle.desk_store.specs.declared.open_fault.OpenFault.{OpenFault, TheVariants.Storage}
use Rattle.desk_store.proofs.{OpeningFaults.met_later}

-- nothing is left that was not, where no commit survives
pub leaves_nothing : (old new : State) → Survives old new (λ _. ⊥) → LeavesNothing old new
leaves_nothing old new survives = record {
  honest = λ clean. let le = survives.clean in omega (arith, clean, le);
  left = λ clean trees may. elim (survives.crash clean trees may) [ inl was ↦ was | inr none ↦ absurd none ];
}

-- nor by one call and the next
nothing_then : (old mid new : State) → LeavesNothing old mid → LeavesNothing mid new → LeavesNothing old new
nothing_then old mid new one next = record {
  honest = λ clean. one.honest (next.honest clean);
  left = λ clean trees may. one.left (next.honest clean) trees (next.left clean trees may);
}

-- ---- saving

-- a save that failed, and the test whether the connection is still open
pub failed_to_save : {S : Type 0} (g : Ghosts S) (Fits : Type 0) (all : List Sql) (old mid new : Held S) (refusal : SaveFault) (why : StorageFault)
    → IsOfSave refusal why → IsCause g Fits all old mid refusal → (IsBeforeCommit refusal → Survives (state g old) (state g mid) (λ _. ⊥))
    → Asks (state g mid) (state g new) → mid.in_transaction ≡ false
    → (HasCleanDisk (state g new) → why ≡ storagefault.Reopen → IsBeforeCommit refusal → IsSilent (state g mid) (state g new))
    → FailedToSave g Fits all old new why
failed_to_save g Fits all old mid new refusal why fault cause early tested idle silent = record {
  refusal = refusal;
  fault = fault;
  cause = cause_then g Fits all old mid new refusal cause tested.survives;
  before = λ is. leaves_nothing (state g old) (state g new) (survives_both (state g old) (state g mid) (state g new) (early is) tested.survives);
  shut = λ clean is again.
      record { from = mid; idle = idle; nothing = leaves_nothing (state g old) (state g mid) (early is); silent = silent clean again is };
}

-- a reading of the store
pub reads_nothing : {S R : Type 0} (g : Ghosts S) (old new : Store S) (result : Result R StorageFault) → Reads (store_sight g) old new result
    → LeavesNothing (state g old.conn) (state g new.conn)
reads_nothing g old new result reads = record { honest = reads.honest; left = reads.left }

-- and one that failed
pub read_failed : {S R : Type 0} (g : Ghosts S) (old new : Store S) (result : Result R StorageFault) → Reads (store_sight g) old new result
    → IfErr result (Failed g None old.conn new.conn)
read_failed g old new (Ok read) reads = tt
read_failed g old new (Err why) reads = reads_nothing g old new (Err why) reads

-- ---- opening

-- an opening that only asked
pub opened_nothing : {S : Type 0} (g : Ghosts S) (old new : Held S) (f : OpenFault) → LeavesNothing (state g old) (state g new)
    → (HasCleanDisk (state g new) → IsMetFault (state g old) (state g new) f) → FailedToOpen g old new f
opened_nothing g old new (Storage why) left met = inl (record { nothing = left; met = met })
opened_nothing g old new f left met = left

-- whatever it answers
pub asked_to_open : {S R : Type 0} (g : Ghosts S) (old new : Held S) (result : Result R OpenFault) → Asks (state g old) (state g new)
    → (HasCleanDisk (state g new) → IfErr result (IsMetFault (state g old) (state g new))) → IfErr result (FailedToOpen g old new)
asked_to_open g old new (Ok done) asked met = tt
asked_to_open g old new (Err f) asked met = opened_nothing g old new f (leaves_nothing (state g old) (state g new) asked.survives) met

-- ---- behind a call that only asked, and changed nothing

module _ {S : Type 0} (g : Ghosts S) (old mid new : Held S) (asked : Asks (state g old) (state g mid))
    (first : HasCleanDisk (state g mid) → (T : Tables) → HasFirst (state g old) T → HasFirst (state g mid) T) where
  -- an upgrade
  upgrade_behind : (why : StorageFault) → FailedToUpgrade g mid new why → FailedToUpgrade g old new why
  upgrade_behind why it = record {
    from = it.from;
    asked = asks_then (state g old) (state g mid) (state g it.from) asked it.asked;
    additions = it.additions;
    added = λ clean T has. it.added clean T (first (let le = it.asked.survives.clean in omega (arith, clean, le)) T has);
    save = it.save;
  }

  -- an opening
  open_behind : (f : OpenFault) → FailedToOpen g mid new f → FailedToOpen g old new f
  open_behind (Storage why) (inl read) = inl (record {
    nothing = nothing_then (state g old) (state g mid) (state g new) (leaves_nothing _ _ asked.survives) read.nothing;
    met = λ clean. met_later (state g old) (state g mid) (state g new) (Storage why) asked (read.met clean);
  })
  open_behind (Storage why) (inr upgrade) = inr (upgrade_behind why upgrade)
  open_behind f left = nothing_then (state g old) (state g mid) (state g new) (leaves_nothing _ _ asked.survives) left

  -- whatever it answers
  pub opened_behind : {R : Type 0} (result : Result R OpenFault) → IfErr result (FailedToOpen g mid new) → IfErr result (FailedToOpen g old new)
  opened_behind result = IfErr-weaker result (FailedToOpen g mid new) (FailedToOpen g old new) open_behind
