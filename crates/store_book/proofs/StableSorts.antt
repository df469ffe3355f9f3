-- What a stable sort by a number makes is the one list that rises and keeps the order of equals.
use Rattle.std.proofs.Common.{◌≡◌, ℕ, zero, suc, ◌<◌, ◌≤◌, Bool, true, false, List, [], ◌∷◌, length, get_or, filter, nat_cmp, is_lt, refl, sym, ap, ◌∙◌, arith}
use Rattle.std.proofs.Common.{inl, inr, suc-le-suc, zero-le}
use Rattle.std.proofs.{lemmas.Bool.cond-true, lemmas.Bool.cond-false, lemmas.Bool.cases_Bool, lemmas.Bool.Decides.nat_tests}
use Rattle.std.specs.List.Sorted.{ties, IsNonDecreasingBy}

-- whether two numbers tie
abbrev pub are_even : ℕ → ℕ → Bool
are_even m n = ties (λ x y. is_lt (nat_cmp x y)) m n

even_at : (m n : ℕ) → (are_even m n ≡ true → m ≡ n) × (m ≡ n → are_even m n ≡ true)
even_at m n = (λ h. grind (arith, nat_tests), λ h. grind (arith, nat_tests))

-- numbers that tie are equal
pub even-same : (m n : ℕ) → are_even m n ≡ true → m ≡ n
even-same m n = (even_at m n).0

-- equal numbers tie
pub same-even : (m n : ℕ) → m ≡ n → are_even m n ≡ true
same-even m n = (even_at m n).1

-- a filter keeps what passes its test
pub filter-kept : {X : Type 0} (p : X → Bool) (y : X) (ys : List X) → p y ≡ true → filter p (y ∷ ys) ≡ y ∷ filter p ys
filter-kept p y ys h = cond-true _ _ _ h

-- a filter drops what fails its test
pub filter-dropped : {X : Type 0} (p : X → Bool) (y : X) (ys : List X) → p y ≡ false → filter p (y ∷ ys) ≡ filter p ys
filter-dropped p y ys h = cond-false _ _ _ h

-- each number is this one or above
abbrev pub AreAtLeast : {X : Type 0} → (X → ℕ) → ℕ → List X → Type 0
AreAtLeast key n [] = Unit {0}
AreAtLeast key n (y ∷ ys) = (n ≤ key y) × AreAtLeast key n ys

-- no number is below an earlier one
abbrev pub Rises : {X : Type 0} → (X → ℕ) → List X → Type 0
Rises key [] = Unit {0}
Rises key (y ∷ ys) = AreAtLeast key (key y) ys × Rises key ys

-- what is above a number is above a lower one
pub at_least-le : {X : Type 0} (key : X → ℕ) (n m : ℕ) (ys : List X) → n ≤ m → AreAtLeast key m ys → AreAtLeast key n ys
at_least-le key n m [] le h = tt
at_least-le key n m (y ∷ ys) le h = let first = h.0 in (omega arith, at_least-le key n m ys le h.1)

at_least-at : {X : Type 0} (key : X → ℕ) (n : ℕ) (ys : List X) → ((j : ℕ) (d : X) → j < length ys → n ≤ key (get_or ys j d)) → AreAtLeast key n ys
at_least-at key n [] h = tt
at_least-at key n (y ∷ ys) h = (h zero y (suc-le-suc zero-le), at_least-at key n ys (λ j d lt. h (suc j) d (suc-le-suc lt)))

-- what does not fall rises
pub rises-from_sort : {X : Type 0} (key : X → ℕ) (ys : List X) → IsNonDecreasingBy key ys → Rises key ys
rises-from_sort key [] h = tt
rises-from_sort key (y ∷ ys) h = (
  at_least-at key (key y) ys (λ j d lt. h zero (suc j) d zero-le (suc-le-suc lt)),
  rises-from_sort key ys (λ i j d le lt. h (suc i) (suc j) d (suc-le-suc le) (suc-le-suc lt)),
)

-- a number that occurs among them is this one or above
at_least-found : {X : Type 0} (key : X → ℕ) (n : ℕ) (x : X) (ys : List X) (w : X) (ws : List X) → AreAtLeast key n ys →
    filter (λ z. are_even (key x) (key z)) ys ≡ w ∷ ws → n ≤ key x
at_least-found key n x [] w ws h e = cc
at_least-found key n x (y ∷ ys) w ws h e =
    elim (cases_Bool (are_even (key x) (key y))) [
      | inl with ↦ omega (arith, h.0, even-same (key x) (key y) with)
      | inr without ↦ at_least-found key n x ys w ws h.1 (sym (filter-dropped (λ z. are_even (key x) (key z)) y ys without) ∙ e)
    ]

-- lists that rise are equal where the elements of each number stand in one order in both
pub same_from_ties : {X : Type 0} (key : X → ℕ) (ys zs : List X) → Rises key ys → Rises key zs →
    ((x : X) → filter (λ z. are_even (key x) (key z)) ys ≡ filter (λ z. are_even (key x) (key z)) zs) → ys ≡ zs
same_from_ties key [] [] left right same = refl
same_from_ties key [] (z ∷ zs) left right same = grind arith
same_from_ties key (y ∷ ys) [] left right same = grind arith
same_from_ties {X} key (y ∷ ys) (z ∷ zs) left right same =
    let at_y = filter-kept (λ x. are_even (key y) (key x)) y ys (same-even (key y) (key y) refl) in
    let at_z = filter-kept (λ x. are_even (key z) (key x)) z zs (same-even (key z) (key z) refl) in
    let up = at_least-found key (key z) y (z ∷ zs) y _ (omega arith, right.0) (sym (same y) ∙ at_y) in
    let down = at_least-found key (key y) z (y ∷ ys) z _ (omega arith, left.0) (same z ∙ at_z) in
    let heads = sym at_y ∙ same y ∙ filter-kept (λ x. are_even (key y) (key x)) z zs (same-even (key y) (key z) (omega arith)) in
    let head : y ≡ z = cc in
    let tails : (x : X) → filter (λ w. are_even (key x) (key w)) ys ≡ filter (λ w. are_even (key x) (key w)) zs =
    λ x. elim (cases_Bool (are_even (key x) (key y))) [
      | inl with ↦
          let both = sym (filter-kept (λ w. are_even (key x) (key w)) y ys with) ∙ same x
          ∙ filter-kept (λ w. are_even (key x) (key w)) z zs (ap (λ w. are_even (key x) (key w)) (sym head) ∙ with) in cc
      | inr without ↦
          sym (filter-dropped (λ w. are_even (key x) (key w)) y ys without) ∙ same x
          ∙ filter-dropped (λ w. are_even (key x) (key w)) z zs (ap (λ w. are_even (key x) (key w)) (sym head) ∙ without)
    ] in
    ap (λ w. w ∷ ys) head ∙ ap (λ l. z ∷ l) (same_from_ties key ys zs left.1 right.1 tails)
