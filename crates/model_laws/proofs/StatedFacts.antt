-- Facts that entries state.
use Rattle.std.proofs.Common.{◌≡◌, ◌≤◌, ℕ, arith, [], ◌∷◌, Option, false}
use Rattle.std.specs.Prelude.{IfSome, unwrap_or}
use Rattle.desk_model.specs.History.{clock, earlier, first, latest}
use Rattle.desk_model.specs.{Change.is_gained, Entry.History, Kept.EachOf, declared.entry.Dated.Dated}
use Rattle.model_laws.proofs.Basics.{each}

-- what holds of two facts holds of the earlier one
pub earlier_holds : {X : Type 0} (P : X → Type 0) (x y : Option X) → IfSome x P → IfSome y P → IfSome (earlier x y) P
earlier_holds P x y h k = grind arith

-- what holds of the fact that each entry states holds of the first
pub first_holds : {X : Type 0} (P : X → Type 0) (fact : Dated → Option X) (F : History) → EachOf (λ e. IfSome (fact e) P) F → IfSome (first fact F) P
first_holds P fact [] h = tt
first_holds P fact (e ∷ F) h = earlier_holds P (first fact F) (fact e) (first_holds P fact F h.1) h.0

-- and of the latest
pub latest_holds : {X : Type 0} (P : X → Type 0) (fact : Dated → Option X) (F : History) → EachOf (λ e. IfSome (fact e) P) F → IfSome (latest fact F) P
latest_holds P fact [] h = tt
latest_holds P fact (e ∷ F) h = earlier_holds P (fact e) (latest fact F) h.0 (latest_holds P fact F h.1)

-- what holds of the fact, if there is one, and of the value at making, holds of the value now
pub now_holds : {X : Type 0} (P : X → Type 0) (o : Option X) (x : X) → IfSome o P → P x → P (unwrap_or o x)
now_holds P o x h k = grind arith

-- no entry is dated after the latest recorded moment
entries_dated : (F : History) → EachOf (λ e. e.date ≤ clock F) F
entries_dated [] = tt
entries_dated (e ∷ F) = (omega arith, each _ _ F (λ d h. let le : d.date ≤ clock F = h in omega arith) (entries_dated F))

-- nor is a first fact that has the date of its entry
pub first_dated : {X : Type 0} (date : X → ℕ) (fact : Dated → Option X) → ((e : Dated) → IfSome (fact e) (λ x. date x ≤ e.date)) → (F : History) →
    IfSome (first fact F) (λ x. date x ≤ clock F)
first_dated date fact states F = grind (arith, first_holds, each, (entries_dated F))

-- where no fact is gained, the fact stays
pub earlier_stays : {X : Type 0} (x y : Option X) → is_gained x (earlier x y) ≡ false → earlier x y ≡ x
earlier_stays x y h = grind arith

-- no fact is gained where nothing changes
pub none_gained : {X : Type 0} (x : Option X) → is_gained x x ≡ false
none_gained x = grind arith
