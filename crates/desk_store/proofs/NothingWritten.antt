-- What a connection still holds after calls that change nothing.
use Rattle.std.proofs.Common.{◌≡◌, Result, Ok, Err, inl, inr, sym, subst, ◌∙◌, arith}
use Rattle.std.specs.Prelude.{IfOk, IsTrue, false}
use Rattle.sqlite_disk.specs.Disk.{MoreFaults}
use Rattle.sqlite.specs.{Held.Held, Held.state, State.State, State.HasCleanDisk, State.IsUnchanged, State.Survives, Store.Ghosts, Tree.Trees}
use Rattle.desk_model.specs.Tables.{Tables}
use Rattle.sql_read.specs.{Held.ForHeld, Looking.LooksUp, declared.fault.ReadFault.ReadFault}
use Rattle.store_book.specs.IsBook.{IsStoredBook}
use Rattle.sql_write.specs.Committing.{GoesBack}
use Rattle.sql_schema.specs.Stays.{Asks, Stays}
use Rattle.store_api.specs.{Sight.Gives, Sight.Reads, Sight.Unchanged, declared.fault.StorageFault.StorageFault}
use Rattle.store_api.specs.declared.fault.StorageFault.TheVariants as fault
use Rattle.sql_schema.proofs.StaysLemmas.{asks_then}
use Rattle.store_api.proofs.Readings.{reads_then, unchanged_here, unchanged_read}
use Rattle.desk_store.specs.Desks.{HasDesk, HasTables, IsDesk, store_sight}
use Rattle.desk_store.specs.{Causes.FailsToLookUp, Causes.IsSilent, Known.IsKnownOf, declared.known.Known.Known, declared.store.Store.Store}

-- ---- states

-- a state that shows what another one showed, which had a desk, has it
pub desk_again : (old new : State) (T : Tables) → IsTrue new.is_open → new.in_transaction ≡ false → new.step_limit ≡ old.step_limit
    → new.now ≡ old.now → new.committed ≡ old.committed → HasDesk old T → HasDesk new T
desk_again old new T is_open idle limit now committed has = record {
  is_open = is_open;
  idle = idle;
  unlimited = limit ∙ has.unlimited;
  settled = now ∙ has.settled ∙ sym committed;
  desk = subst (λ db. IsDesk db T) (sym now) has.desk;
}

-- a call that changed nothing leaves the desk
pub desk_unchanged : (old new : State) (T : Tables) → new.step_limit ≡ old.step_limit → IsUnchanged old new → HasDesk old T → HasDesk new T
desk_unchanged old new T limit same has =
    desk_again old new T same.0.is_open (same.0.mode ∙ has.idle) limit same.0.now_is same.0.committed_is has

-- after a call that failed and left the connection open
pub desk_stays : (old new : State) (T : Tables) → IsTrue new.is_open → Asks old new → HasCleanDisk new → HasDesk old T → HasDesk new T
desk_stays old new T is_open asks clean has =
    let s = asks.stays clean in
    let now = s.now is_open has.settled in
    desk_again old new T is_open (asks.idle has.idle) asks.survives.limit (now ∙ sym has.settled) (s.committed is_open) has

-- after a transaction that was given up
pub desk_back : (old mid : State) (T : Tables) → IsTrue mid.is_open → mid.in_transaction ≡ false → mid.step_limit ≡ old.step_limit → GoesBack old mid
    → HasDesk old T → HasDesk mid T
desk_back old mid T is_open idle limit back has =
    desk_again old mid T is_open idle limit (back.now is_open ∙ sym has.settled) (back.committed is_open) has

-- it was given up, and a later call changed nothing
pub back_then : (old mid new : State) → GoesBack old mid → Stays mid new → GoesBack old new
back_then old mid new back s = record {
  now = λ h. let was = s.was_open h in s.now h (back.now was ∙ sym (back.committed was)) ∙ back.committed was;
  committed = λ h. s.committed h ∙ back.committed (s.was_open h);
}

-- ---- results

-- a call that failed
abbrev pub failed : {E : Type 0} → (R : Type 0) → E → Result R E
failed R why = Err why

-- it failed by this
pub same_fault : {R E : Type 0} (a b : E) → failed R a ≡ failed R b → a ≡ b
same_fault a b same = cc

-- ---- a store

module _ {S : Type 0} (g : Ghosts S) where
  -- a stop leaves no more than it did
  pub left_by : (old new : Store S) → Survives (state g old.conn) (state g new.conn) (λ _. ⊥) → HasCleanDisk (state g new.conn) → (c : Trees)
      → (state g new.conn).may_leave c → (state g old.conn).may_leave c
  left_by old new survives clean c may = elim (survives.crash clean c may) [ inl was ↦ was | inr none ↦ absurd none ]

  -- the disk was honest before
  pub honest_by : {P : Trees → Type 0} (old new : Store S) → Survives (state g old.conn) (state g new.conn) P → HasCleanDisk (state g new.conn)
      → HasCleanDisk (state g old.conn)
  honest_by old new survives clean = let le = survives.clean in omega (arith, clean, le)

  -- nothing changed, and nothing is known but what was so
  pub unchanged_by : (old new : Store S) → Survives (state g old.conn) (state g new.conn) (λ _. ⊥)
      → ((T : Tables) → IsKnownOf old.known T → IsKnownOf new.known T)
      → (HasCleanDisk (state g new.conn) → (T : Tables) → HasDesk (state g old.conn) T → HasDesk (state g new.conn) T)
      → Unchanged (store_sight g) old new
  unchanged_by old new survives known has = record {
    honest = honest_by old new survives;
    left = left_by old new survives;
    tables = λ clean T held. record { desk = has clean T held.desk; known = known T held.known };
  }

  -- a call that read what was asked for
  pub reads_ok : {R : Type 0} (old new : Store S) (read : R) → old.known ≡ new.known → Asks (state g old.conn) (state g new.conn)
      → (HasCleanDisk (state g new.conn) → IsUnchanged (state g old.conn) (state g new.conn)) → Reads (store_sight g) old new (Ok read)
  reads_ok old new read known asks same = record {
    honest = honest_by old new asks.survives;
    left = left_by old new asks.survives;
    tables = λ clean T held. record {
      desk = desk_unchanged (state g old.conn) (state g new.conn) T asks.survives.limit (same clean) held.desk;
      known = subst (λ k. IsKnownOf k T) known held.known;
    };
    without_memory = tt;
    failed = λ clean T held. tt;
  }

  -- a call that failed; the connection of a store that goes on is open
  pub reads_failed : {R : Type 0} (old new : Store S) (why : StorageFault) → old.known ≡ new.known → Asks (state g old.conn) (state g new.conn)
      → (HasCleanDisk (state g new.conn) → why ≡ fault.Memory → IsTrue (state g new.conn).is_open)
      → (HasCleanDisk (state g new.conn) → (T : Tables) → HasTables g old T → FailsToLookUp g old.conn new.conn why)
      → Reads (store_sight g) old new (failed R why)
  reads_failed old new why known asks is_open fails = record {
    honest = honest_by old new asks.survives;
    left = left_by old new asks.survives;
    tables = tt;
    without_memory = λ memory clean T held. record {
      desk = desk_stays (state g old.conn) (state g new.conn) T (is_open clean memory) asks clean held.desk;
      known = subst (λ k. IsKnownOf k T) known held.known;
    };
    failed = λ clean T held. inr (record { from = old; unchanged = unchanged_here; fails = fails clean T held });
  }

  -- a call that failed; the connection of a store that goes on is still open
  pub reads_err : {R : Type 0} (old new : Store S) (mid : Held S) (why : StorageFault) → old.known ≡ new.known → Asks (state g old.conn) (state g mid)
      → Asks (state g mid) (state g new.conn)
      → (HasCleanDisk (state g new.conn) → why ≡ fault.Memory → IsUnchanged (state g mid) (state g new.conn))
      → (HasCleanDisk (state g new.conn) → why ≡ fault.Reopen → IsSilent (state g mid) (state g new.conn))
      → (HasCleanDisk (state g new.conn) → (T : Tables) → HasTables g old T → why ≡ fault.Device
      → MoreFaults (state g old.conn).faults (state g new.conn).faults)
      → Reads (store_sight g) old new (failed R why)
  reads_err old new mid why known asked tested same silent met =
      reads_failed old new why known (asks_then (state g old.conn) (state g mid) (state g new.conn) asked tested)
      (λ clean memory. (same clean memory).0.is_open)
      (λ clean T held. record { met = λ _. met clean T held; shut = λ _ shut. record { from = mid; asked = asked; silent = silent clean shut } })

  -- what a reading found is found by what hands it on
  pub hands_on : {R E : Type 0} (P : Tables → R → Type 0) (old : Store S) (mid : Held S) (new : Store S) (read : Result R E) (result : Result R StorageFault)
      → ForHeld (state g old.conn) (state g mid) (λ T. IsStoredBook T → IfOk read (P T)) → IfOk result (λ found. read ≡ Ok found)
      → (HasCleanDisk (state g new.conn) → HasCleanDisk (state g mid)) → HasCleanDisk (state g new.conn) → (T : Tables) → HasTables g old T → IfOk result (P T)
  hands_on P old mid new read (Ok found) of same honest clean T has =
      subst (λ r. IfOk r (P T)) same (of (honest clean) T has.desk.desk.holds has.desk.desk.book)
  hands_on P old mid new read (Err why) of same honest clean T has = tt

  -- so a look-up of the store gives what the database gave
  pub handed : {R : Type 0} {P : Tables → R → Type 0} {old new : Store S} {mid : Held S} {read : Result R ReadFault} {result : Result R StorageFault}
      → LooksUp g old.conn mid P read → Reads (store_sight g) old new result → IfOk result (λ found. read ≡ Ok found)
      → (HasCleanDisk (state g new.conn) → HasCleanDisk (state g mid)) → Gives (store_sight g) old new P result
  handed {R} {P} {old} {new} {mid} {read} {result} look reads same honest = record {
    reads = reads;
    found = hands_on P old mid new read result look.found same honest;
  }

  -- so it does behind what the store knew
  pub handed_on : {A R : Type 0} {P : Tables → R → Type 0} {old between new : Store S} {a : A} (result : Result R StorageFault)
      → Reads (store_sight g) old between (Ok a) → Gives (store_sight g) between new P result → Gives (store_sight g) old new P result
  handed_on result known gives = record {
    reads = reads_then result (unchanged_read known) gives.reads;
    found = λ clean T has. gives.found clean T (known.tables (gives.reads.honest clean) T has);
  }

  -- what a store notes of it is so of its tables
  pub learns_on : {R E : Type 0} (P : Tables → R → Type 0) (old : Store S) (mid : Held S) (new : Store S) (known : Known) (read : Result R E) (found : R)
      → ForHeld (state g old.conn) (state g mid) (λ T. IsStoredBook T → IfOk read (P T)) → read ≡ Ok found
      → (HasCleanDisk (state g new.conn) → HasCleanDisk (state g mid)) → ((T : Tables) → P T found → IsKnownOf new.known T → IsKnownOf known T)
      → HasCleanDisk (state g new.conn) → (T : Tables) → HasTables g old T → IsKnownOf new.known T → IsKnownOf known T
  learns_on P old mid new known read found of is honest noted clean T has =
      noted T (hands_on P old mid new read (Ok found) of is honest clean T has)

  -- a store that knows more of what was read has what it had
  pub reads_knowing : {A B : Type 0} (old mid new : Store S) (a : A) (b : B) → new.conn ≡ mid.conn → Reads (store_sight g) old mid (Ok a)
      → (HasCleanDisk (state g mid.conn) → (T : Tables) → HasTables g old T → IsKnownOf mid.known T → IsKnownOf new.known T)
      → Reads (store_sight g) old new (Ok b)
  reads_knowing old mid new a b same read known =
      let there : HasCleanDisk (state g new.conn) → HasCleanDisk (state g mid.conn) = λ clean. subst (λ c. HasCleanDisk (state g c)) same clean in
      record {
        honest = λ clean. read.honest (there clean);
        left = λ clean c may. read.left (there clean) c (subst (λ conn. (state g conn).may_leave c) same may);
        tables = λ clean T held.
            let tables = read.tables (there clean) T held in
            record {
              desk = subst (λ conn. HasDesk (state g conn) T) (sym same) tables.desk;
              known = known (there clean) T held tables.known;
            };
        without_memory = tt;
        failed = λ clean T held. tt;
      }
