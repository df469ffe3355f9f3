-- By what a look-up fails: its calls one after another.
use Rattle.std.proofs.Common.{◌≡◌, ◌++◌, List, [], ◌∷◌, map, Result, Err, IfErr, arith}
use Rattle.std.proofs.{lemmas.List.Elements.All-from_recursion, lemmas.List.Elements.recursion_from_All}
use Rattle.std.specs.List.{AllByRecursion}
use Rattle.sqlite.specs.{Order.Row, State.State}
use Rattle.desk_model.specs.Kept.{EachOf}
use Rattle.sql_schema.specs.Stays.{Asks}
use Rattle.sql_read.specs.{LookUpFaults.AreTableRows, LookUpFaults.IsOfMemory, LookUpFaults.IsOfMemoryOrDisk, declared.fault.ReadFault.ReadFault}

-- ---- faults

-- whatever came of it
pub all_of_memory : {A : Type 0} (r : Result A ReadFault) (old new : State) → IfErr r IsOfMemory → IfErr r (IsOfMemoryOrDisk old new)
all_of_memory r old new h = grind arith

-- a call that failed by this
abbrev pub failed : (A : Type 0) → ReadFault → Result A ReadFault
failed A fault = Err fault

-- behind a call that met nothing
pub caused_behind : {A : Type 0} (r : Result A ReadFault) (old mid new : State) → Asks old mid → IfErr r (IsOfMemoryOrDisk mid new)
    → IfErr r (IsOfMemoryOrDisk old new)
caused_behind r old mid new h k = grind arith

-- ---- rows in turn

-- of rows of a table the first is one, and so are the others
pub table_first : {R C : Type 0} (spelled : Row → C) (Fits : Row → Type 0) (write : R → C) (IsStored : R → Type 0) (row : Row) (rest : List Row)
    → AreTableRows spelled Fits write IsStored (row ∷ rest)
    → (Fits row × ((found : R) × IsStored found × (spelled row ≡ write found))) × AreTableRows spelled Fits write IsStored rest
table_first {R} {C} spelled Fits write IsStored row rest are = by are.written are.stored are.columns
  where
    fits : AllByRecursion Fits (row ∷ rest)
    fits = recursion_from_All Fits (row ∷ rest) are.fit

    by : (written : List R) → EachOf IsStored written → map spelled (row ∷ rest) ≡ map write written
        → (Fits row × ((found : R) × IsStored found × (spelled row ≡ write found))) × AreTableRows spelled Fits write IsStored rest
    by [] stored same = absurd (cc same)
    by (w ∷ ws) stored same =
        let first : spelled row ≡ write w = cc same in
        let others : map spelled rest ≡ map write ws = cc same in
        ((fits.0, (w, stored.0, first)), record { fit = All-from_recursion Fits rest fits.1; written = ws; stored = stored.1; columns = others })

-- each bare row is that of a whole one, which is so, and serves what that one serves
pub with_whole : {X Y Q : Type 0} (P : X → Type 0) (bare : X → Y) (before : List Y) (head : Y) (after : List Y) (xs : List X)
    → before ++ head ∷ after ≡ map bare xs → EachOf P xs → ((x : X) → P x → head ≡ bare x → Q) → Q
with_whole P bare [] head after [] are own serve = absurd (cc are)
with_whole P bare [] head after (x ∷ xs) are own serve = serve x own.0 (let e : head ≡ bare x = cc are in e)
with_whole P bare (y ∷ before) head after [] are own serve = absurd (cc are)
with_whole P bare (y ∷ before) head after (x ∷ xs) are own serve =
    with_whole P bare before head after xs (let e : before ++ head ∷ after ≡ map bare xs = cc are in e) own.1 serve
