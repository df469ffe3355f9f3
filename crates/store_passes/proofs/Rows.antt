-- The rows above a number, one after the other.
use Rattle.std.proofs.Common.{◌≡◌, ◌<◌, ◌≤◌, ℕ, ◌+◌, List, [], ◌∷◌, ◌++◌, true, cond, refl, sym, arith, ltb, Option, Result, IfOk, rules}
use Rattle.std.proofs.lemmas.{Result.IfOk-weaker, Bool.lt-ltb}
use Rattle.model_laws.specs.Ordered.{Ascends}
use Rattle.model_parts.specs.Above.{above, first_of}
use Rattle.store_passes.specs.{Left.IsRowAfter, Stepping.IsFirst}

-- rows that ascend from above a number are all above it
pub all_above : {X : Type 0} (number : X → ℕ) (n m : ℕ) (xs : List X) → n < m → Ascends number m xs → above number n xs ≡ xs
all_above number n m [] lt h = refl
all_above number n m (x ∷ xs) lt h =
    let a : m ≤ number x = h.0 in
    let more : ltb n (number x) ≡ true = lt-ltb n (number x) (omega arith) in
    let rest : above number n xs ≡ xs = all_above number n (number x + 1) xs (omega arith) h.1 in
    λ i. cond (more i) (x ∷ rest i) (rest i)

-- the first row above a number is above it
first_is_above : {X : Type 0} (number : X → ℕ) (n : ℕ) (x : X) (xs : List X) → first_of (above number n xs) ≡ x ∷ [] → n < number x
first_is_above number n x [] e = absurd (cc e)
first_is_above number n x (y ∷ ys) e = grind (arith, (first_is_above number n x ys))

-- two rows are not one
never_two : {X : Type 0} (y : X) (before : List X) (x : X) (zs : List X) → y ∷ (before ++ x ∷ []) ≡ first_of zs → ⊥
never_two y before x [] e = absurd (cc e)
never_two y [] x (z ∷ zs) e = absurd (cc e)
never_two y (b ∷ before) x (z ∷ zs) e = absurd (cc e)

-- nor is the last of those that are the first above a number at or below it
pub last_is_above : {X : Type 0} (number : X → ℕ) (n : ℕ) (before : List X) (x : X) (xs : List X) → before ++ x ∷ [] ≡ first_of (above number n xs)
    → n < number x
last_is_above number n [] x xs e = first_is_above number n x xs (sym e)
last_is_above number n (y ∷ before) x xs e = absurd (never_two y before x (above number n xs) e)

-- where rows ascend, those above a number are the first of them and those above its number
pub above_step : {X : Type 0} (number : X → ℕ) (n m : ℕ) (x : X) (xs : List X) → Ascends number m xs → first_of (above number n xs) ≡ x ∷ [] →
    above number n xs ≡ x ∷ above number (number x) xs
above_step number n m x [] h e = absurd (cc e)
above_step number n m x (y ∷ ys) h e = grind (arith, all_above, first_is_above, (above_step number n (number y + 1) x ys h.1))

-- the row that was given is the one after a number, where rows ascend
is_after : {X : Type 0} (number : X → ℕ) (n : ℕ) (all : List X) (row : Option X) → Ascends number 1 all → IsFirst row (above number n all)
    → IsRowAfter number all n row
is_after number n all row h k = search (rules, above_step)

pub row_is_after : {X F : Type 0} (number : X → ℕ) (n : ℕ) (all found : List X) (r : Result (Option X) F) → Ascends number 1 all
    → IfOk r (λ row. (rows : List X) → found ≡ first_of rows → IsFirst row rows) → found ≡ first_of (above number n all)
    → IfOk r (IsRowAfter number all n)
row_is_after number n all found r ascends told are = IfOk-weaker r _ _ (λ row first. is_after number n all row ascends (first (above number n all) are)) told
