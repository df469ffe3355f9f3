-- Look-ups one after another, and what is made of what they found.
use Rattle.std.proofs.Common.{◌≡◌, ℕ, List, Result, Ok, Err, IsErrAnd, subst, sym, arith, rules}
use Rattle.std.specs.Prelude.{IfErr, IfOk, IsErr, OnOk}
use Rattle.sqlite.specs.{Order.Row, Store.Ghosts, Held.Held, Held.state, State.HasCleanDisk, declared.error.Error.Error}
use Rattle.desk_model.specs.{Tables.Tables}
use Rattle.store_book.specs.IsBook.{IsStoredBook}
use Rattle.sql_schema.specs.Stays.{Asks}
use Rattle.sql_tables.specs.Holds.{Holds}
use Rattle.sql_read.specs.{Failures.MayRead, Reads.ReadsRows, Looking.Finds, Looking.LooksFor, Looking.LooksUp, Selecting.IsQuery}
use Rattle.sql_read.specs.{LookUpFaults.IsOfMemory, LookUpFaults.IsOfMemoryOrDisk, declared.fault.ReadFault.ReadFault}
use Rattle.sql_read.proofs.LookUpFaults.{all_of_memory}

-- whatever a query is called
pub finds_as : {S R C : Type 0} {g : Ghosts S} {spelled : Row → C} {Fits : Row → Type 0} {write : R → C} {IsStored : R → Type 0} {ask other : List ℕ × Row}
    {old : Held S} {found : List R}
    → other ≡ ask → Finds g spelled Fits write IsStored ask old found → Finds g spelled Fits write IsStored other old found
finds_as {S} {R} {C} {g} {spelled} {Fits} {write} {IsStored} {ask} {other} {old} {found} same finds = search rules

-- nothing was changed, whatever was made of it
always : {A : Type 0} (r : Result A ReadFault) {Q : Type 0} → Q → OnOk r Q
always r h = search rules

-- so it is one, as the text that it is called
pub query_as : {ask other : List ℕ × Row} → other ≡ ask → IsQuery ask.0 → IsQuery other.0
query_as {ask} {other} same is = subst (λ (a : List ℕ × Row). IsQuery a.0) (sym same) is

-- so are the rows that it reads
pub rows_as : {S A : Type 0} {g : Ghosts S} (items : A → List Row) {ask other : List ℕ × Row} {old new : Held S} {read : Result A Error} → other ≡ ask
    → ReadsRows g items other old new read → ReadsRows g items ask old new read
rows_as {S} {A} {g} items {ask} {other} {old} {new} {read} same rows = subst (λ a. ReadsRows g items a old new read) same rows

-- what a desk's tables have was looked for
pub looked : {S W A : Type 0} {g : Ghosts S} {old new : Held S} {Such : Tables → W → Type 0} {Is : W → A → Type 0} {Are : Tables → A → Type 0}
    {r : Result A ReadFault} (pick : Tables → W) → ((T : Tables) → Holds (state g old).now T → IsStoredBook T → Such T (pick T))
    → ((T : Tables) → Holds (state g old).now T → IsStoredBook T → (a : A) → Is (pick T) a → Are T a) → LooksFor g old new Such Is r → LooksUp g old new Are r
looked {r = r} pick such so look = grind arith

-- rows were, whatever the query is called
pub looked_as : {S R C A : Type 0} {g : Ghosts S} {spelled : Row → C} {Fits : Row → Type 0} {write : R → C} {IsStored : R → Type 0}
    {ask other : List ℕ × Row} {old new : Held S} {items : A → List R} {pick : Tables → List R} {r : Result A ReadFault} → other ≡ ask
    → ((T : Tables) → Holds (state g old).now T → IsStoredBook T → Finds g spelled Fits write IsStored ask old (pick T))
    → LooksFor g old new (λ _ rows. Finds g spelled Fits write IsStored other old rows) (λ rows a. items a ≡ rows) r
    → LooksUp g old new (λ T a. items a ≡ pick T) r
looked_as {pick = pick} same finds look = looked pick (λ T has book. finds_as same (finds T has book)) (λ T has book a are. are) look

module _ {S W A : Type 0} {g : Ghosts S} {old new : Held S} {Such : Tables → W → Type 0} {Is : W → A → Type 0} where
  -- ---- in a desk's tables

  module _ {B : Type 0} {Are : Tables → B → Type 0} (pick : Tables → W) (such : (T : Tables) → Holds (state g old).now T → IsStoredBook T → Such T (pick T))
    where
      -- this was made of what was found, which fails for memory alone
      pub looked_made : {a : A} {r : Result B ReadFault} → LooksFor g old new Such Is (Ok a)
          → ((T : Tables) → Holds (state g old).now T → IsStoredBook T → Is (pick T) a → IfOk r (Are T) × IfErr r IsOfMemory) → LooksUp g old new Are r
      looked_made {r = r} look made = record {
        found = λ clean T has book. (made T has book (look.found clean T has book (pick T) (such T has book))).0;
        caused = λ clean T has book may.
            all_of_memory r (state g old) (state g new) (made T has book (look.found clean T has book (pick T) (such T has book))).1;
        unchanged = λ clean. always r (look.unchanged clean);
        asks = look.asks;
      }

      -- the fault was passed on
      pub looked_failed : {fault : ReadFault} {r : Result B ReadFault} → LooksFor g old new Such Is (Err fault) → IsErrAnd r (λ e. e ≡ fault)
          → LooksUp g old new Are r
      looked_failed {r = Ok b} look same = absurd same
      looked_failed {r = Err e} look same = record {
        found = λ clean T has book. tt;
        caused = λ clean T has book may.
            subst (IsOfMemoryOrDisk (state g old) (state g new)) (sym same) (look.caused clean T has book may (pick T) (such T has book));
        unchanged = λ clean. tt;
        asks = look.asks;
      }

  -- ---- in a step of a look-up

  module _ {V B : Type 0} {All : Tables → V → Type 0} {Are : V → B → Type 0} (pick : Tables → V → W)
      (such : (T : Tables) → Holds (state g old).now T → IsStoredBook T → (v : V) → All T v → Such T (pick T v)) where
    -- this was made of what was found
    pub step_made : {a : A} {r : Result B ReadFault} → LooksFor g old new Such Is (Ok a)
        → ((T : Tables) (v : V) → All T v → Is (pick T v) a → IfOk r (Are v) × IfErr r IsOfMemory) → LooksFor g old new All Are r
    step_made {r = r} look made = record {
      found = λ clean T has book v all. (made T v all (look.found clean T has book (pick T v) (such T has book v all))).0;
      caused = λ clean T has book may v all.
          all_of_memory r (state g old) (state g new) (made T v all (look.found clean T has book (pick T v) (such T has book v all))).1;
      unchanged = λ clean. always r (look.unchanged clean);
      asks = look.asks;
    }

    -- the fault was passed on
    pub step_failed : {fault : ReadFault} {r : Result B ReadFault} → LooksFor g old new Such Is (Err fault) → IsErrAnd r (λ e. e ≡ fault)
        → LooksFor g old new All Are r
    step_failed {r = Ok b} look same = absurd same
    step_failed {r = Err e} look same = record {
      found = λ clean T has book v all. tt;
      caused = λ clean T has book may v all.
          subst (IsOfMemoryOrDisk (state g old) (state g new)) (sym same) (look.caused clean T has book may (pick T v) (such T has book v all));
      unchanged = λ clean. tt;
      asks = look.asks;
    }

-- one that ended early
pub stopped : {S W A : Type 0} {g : Ghosts S} {old new : Held S} {Such : Tables → W → Type 0} {Is : W → A → Type 0} {r : Result A ReadFault} → IsErr r
    → (HasCleanDisk (state g new) → (T : Tables) → Holds (state g old).now T → IsStoredBook T → MayRead (state g old) → (w : W) → Such T w
    → IfErr r (IsOfMemoryOrDisk (state g old) (state g new)))
    → Asks (state g old) (state g new) → LooksFor g old new Such Is r
stopped {r = r} ended caused asks = grind arith
