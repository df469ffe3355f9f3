-- What a reading of all rows says, in either format.
use Rattle.std.proofs.{lemmas.Result.IfErr-weaker, Common.◌≡◌, Common.Result, Common.inl, Common.inr, Common.arith}
use Rattle.std.specs.Prelude.{◌⊎◌, IfErr, OnOk}
use Rattle.sqlite.specs.{Held.Held, Held.state, State.State, State.HasCleanDisk, State.IsUnchanged, Store.Ghosts, declared.error.Error.Error}
use Rattle.desk_model.specs.Tables.{Tables}
use Rattle.sql_read.specs.Failures.{IsMet}
use Rattle.sql_schema.proofs.StaysLemmas.{asks_then}
use Rattle.sql_schema.specs.{Failing.IsFailure, Stays.Asks}
use Rattle.store_api.specs.declared.fault.StorageFault.TheVariants.{Memory}
use Rattle.desk_store.specs.{Causes.IsOfOpening, Causes.cause_of, Opening.ReadsRows, declared.open_fault.OpenFault.OpenFault}
use Rattle.desk_store.specs.{declared.open_fault.OpenFault.TheVariants.NotADesk, declared.open_fault.OpenFault.TheVariants.Storage}
use Rattle.desk_store.proofs.OpeningFaults.{book_is_known, book_met, failure_is_storage, no_desk_is_other, none_has, opening_met, reading_is_known}
use Rattle.desk_store.proofs.{Books.always_ok, NothingWritten.failed, NothingWritten.same_fault}
use Rattle.desk_store.specs.declared.faults.EngineCause.TheVariants as cause

module _ {S : Type 0} (g : Ghosts S) {Has : State → Tables → Type 0} {Shows Lacks : Held S → Type 0} where
  -- where a reading failed
  pub reading_failed : {R : Type 0} (old mid new : Held S) (error : Error) (why : OpenFault) → Asks (state g old) (state g mid)
      → (HasCleanDisk (state g mid) → (T : Tables) → Has (state g old) T → IsFailure error)
      → (HasCleanDisk (state g mid) → cause_of error ≡ cause.Other → Lacks old)
      → (HasCleanDisk (state g mid) → IsMet (state g old) (state g mid) error) → IsOfOpening (cause_of error) why
      → (HasCleanDisk (state g new) → why ≡ Storage Memory → IsUnchanged (state g mid) (state g new)) → Asks (state g mid) (state g new)
      → ReadsRows g Has Shows Lacks old new (failed R why)
  reading_failed old mid new error why asked fails refused met told same tested =
      let there : HasCleanDisk (state g new) → HasCleanDisk (state g mid) = λ clean. let le = tested.survives.clean in omega (arith, clean, le) in
      record {
        shown = λ clean. tt;
        no_newer = λ newer. reading_is_known (cause_of error) why told (same_fault _ _ newer);
        no_desk = λ clean none. refused (there clean) (no_desk_is_other (cause_of error) why told (same_fault _ _ none));
        unchanged = λ clean. tt;
        desk = λ clean T has. failure_is_storage error why (fails (there clean) T has) told;
        met = λ clean. opening_met (state g old) (state g mid) (state g new) error why told (met (there clean)) tested;
        answering = λ clean memory. (same clean (same_fault _ _ memory)).0.is_open;
        asks = asks_then (state g old) (state g mid) (state g new) asked tested;
      }

  -- the rows were read, and what was made of them failed for memory, or as there is none (`None`)
  pub reading_made : {R : Type 0} (None : Type 0) (old new : Held S) (made : Result R OpenFault)
      → IfErr made (λ why. (why ≡ Storage Memory) ⊎ ((why ≡ NotADesk) × None)) → Asks (state g old) (state g new)
      → (HasCleanDisk (state g new) → IsUnchanged (state g old) (state g new)) → (HasCleanDisk (state g new) → OnOk made (Shows old))
      → (HasCleanDisk (state g new) → None → Lacks old × ((T : Tables) → Has (state g old) T → ⊥)) → ReadsRows g Has Shows Lacks old new made
  reading_made None old new made fault asked same shows lacks = record {
    shown = shows;
    no_newer = book_is_known None made fault;
    no_desk = λ clean none. (lacks clean (none_has None made fault none)).0;
    unchanged = λ clean. always_ok made (same clean);
    desk = λ clean. IfErr-weaker made _ _
        (λ why is T has. elim is [ inl memory ↦ (Memory, memory) | inr none ↦ absurd ((lacks clean none.1).1 T has) ]) fault;
    met = λ clean. book_met None (state g old) (state g new) made fault;
    answering = λ clean memory. (same clean).0.is_open;
    asks = asked;
  }
