-- Tests on lists.
use Rattle.std.proofs.Common.{◌≡◌, ℕ, List, [], ◌∷◌, filter, refl, sym, true, false, Bool, cond, arith}
use Rattle.std.proofs.lemmas.Bool.{eqb-true, eq-eqb, or_left, or_right}
use Rattle.std.specs.{Prelude.◌==◌, Prelude.◌||◌, List.list_any}
use Rattle.desk_model.specs.Kept.{EachOf}
use Rattle.model_laws.proofs.Basics.{each}

-- ---- tests

-- by either test
pub or_cases : {A : Type 0} (a b : Bool) → (a || b) ≡ true → (a ≡ true → A) → (b ≡ true → A) → A
or_cases a b h k l = grind arith

-- a number is itself
pub same_number : (n : ℕ) → (n == n) ≡ true
same_number n = eq-eqb n n refl

-- numbers that are equal are equal the other way round
pub turned : (a b : ℕ) → (a == b) ≡ true → (b == a) ≡ true
turned a b h = eq-eqb b a (sym (eqb-true a b h))

-- a test that one of the items passes
pub each_member : {X : Type 0} (xs : List X) → EachOf (λ x. (p : X → Bool) → p x ≡ true → list_any p xs ≡ true) xs
each_member [] = tt
each_member (x ∷ xs) = ((λ p h. or_left (p x) (list_any p xs) h), each _ _ xs (λ y f p h. or_right (p x) (list_any p xs) (f p h)) (each_member xs))

-- what follows from an item that passes
pub any_gives : {X A : Type 0} (p : X → Bool) (xs : List X) → list_any p xs ≡ true → EachOf (λ x. p x ≡ true → A) xs → A
any_gives p [] h k = cc
any_gives p (x ∷ xs) h k = or_cases (p x) (list_any p xs) h k.0 (λ e. any_gives p xs e k.1)

-- what holds of the items that a test leaves
pub each_filtered : {X : Type 0} (P : X → Type 0) (p : X → Bool) (xs : List X) → EachOf P (filter p xs) → EachOf (λ x. p x ≡ true → P x) xs
each_filtered P p [] h = tt
each_filtered P p (x ∷ xs) h = grind (arith, (each_filtered P p xs))

-- what holds of all items holds of those that a test leaves
pub filtered_each : {X : Type 0} (P : X → Type 0) (p : X → Bool) (xs : List X) → EachOf (λ x. p x ≡ true → P x) xs → EachOf P (filter p xs)
filtered_each P p [] h = tt
filtered_each P p (x ∷ xs) h = grind (arith, (filtered_each P p xs h.1))

-- what a test leaves passes it
pub each_passes : {X : Type 0} (p : X → Bool) (xs : List X) → EachOf (λ x. p x ≡ true) (filter p xs)
each_passes p xs = filtered_each _ p xs (each _ _ xs (λ x member yes. yes) (each_member xs))

-- tests that agree on each item leave the same
pub filter_same : {X : Type 0} (p q : X → Bool) (xs : List X) → EachOf (λ x. p x ≡ q x) xs → filter p xs ≡ filter q xs
filter_same p q [] h = refl
filter_same p q (x ∷ xs) h = λ i. cond (h.0 i) (x ∷ filter_same p q xs h.1 i) (filter_same p q xs h.1 i)

-- a test that no item passes leaves nothing
pub filter_nothing : {X : Type 0} (xs : List X) → [] ≡ filter (λ x. false) xs
filter_nothing [] = refl
filter_nothing (x ∷ xs) = filter_nothing xs

-- a test that passes what another passes
pub any_wider : {X : Type 0} (p q : X → Bool) (xs : List X) → ((x : X) → p x ≡ true → q x ≡ true) → list_any p xs ≡ true → list_any q xs ≡ true
any_wider p q xs f h = any_gives p xs h (each _ _ xs (λ x member yes. member q (f x yes)) (each_member xs))
