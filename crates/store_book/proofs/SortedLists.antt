-- A list in order is the only order of its elements that rises strictly.
use Rattle.std.proofs.Common.{◌≡◌, ◌⊎◌, ◌+◌, false, List, [], ◌∷◌, length, get_or, refl, sym, ap, ◌∙◌, arith, Ordering, inl, inr, zero-le, is_lt, rules}
use Rattle.std.proofs.lemmas.List.Elements.{All-from_recursion, recursion_from_All}
use Rattle.std.proofs.lemmas.List.Sorted.{All-permutation, IsPermutation-sym, length_permutation}
use Rattle.std.proofs.lemmas.Map.Keys.{IsDistinct-from_sorted, IsDistinct-IsPermutation, apart_from_distinct, sorted_from_all_adjacent, sorted_head}
use Rattle.std.proofs.lemmas.Map.Keys.{sorted_tail}
use Rattle.std.specs.List.Sorted.{IsSorted, IsStrictlySortedBy, IsPermutation}
use Rattle.std.specs.{Cmp.IsTotalOrder, List.AllByRecursion, List.IsDistinct, Ordering.eq_by_cmp, Ordering.ordering_reverse}
use Rattle.model_laws.proofs.Basics.{each, each_both}
use Rattle.desk_model.specs.Kept.{EachOf}

-- no element is below itself
irreflexive : {X : Type 0} (c : X → X → Ordering) → IsTotalOrder c → (x : X) → c x x ≡ Ordering.Less → ⊥
irreflexive c o x h = let back : c x x ≡ ordering_reverse (c x x) = o.antisymm x x in cc (ap ordering_reverse h)

-- of two elements that are not equal the one that is not above is below
less_from : {X : Type 0} (c : X → X → Ordering) → IsTotalOrder c → (x y : X) → is_lt (c y x) ≡ false → eq_by_cmp c x y ≡ false → c x y ≡ Ordering.Less
less_from c o x y up apart = search rules

-- equality by an order is the same from both sides
pub equal_flips : {X : Type 0} (c : X → X → Ordering) → IsTotalOrder c → (x y : X) → eq_by_cmp c x y ≡ eq_by_cmp c y x
equal_flips c o x y = search rules

-- what is sorted and has no equal elements rises strictly
pub strictly-from_distinct : {X : Type 0} (c : X → X → Ordering) → IsTotalOrder c → (xs : List X) → IsSorted c xs → IsDistinct (eq_by_cmp c) xs →
    IsStrictlySortedBy c xs
unfolding IsStrictlySortedBy
strictly-from_distinct c o [] up apart = tt
strictly-from_distinct c o (x ∷ xs) up apart =
    sorted_from_all_adjacent o (x ∷ xs) x
    (λ k lt. less_from c o (get_or (x ∷ xs) k x) (get_or (x ∷ xs) (k + 1) x) (up k x zero-le lt)
    (apart_from_distinct (eq_by_cmp c) (x ∷ xs) k (k + 1) x apart (omega arith) lt))

-- a sorted order of what can rise strictly does so
pub strictly-from_other : {X : Type 0} (c : X → X → Ordering) → IsTotalOrder c → (xs ys : List X) → IsSorted c xs → IsStrictlySortedBy c ys →
    IsPermutation xs ys → IsStrictlySortedBy c xs
strictly-from_other c o xs ys up rises permuted = search (
  rules,
  strictly-from_distinct,
  IsDistinct-IsPermutation,
  equal_flips,
  IsPermutation-sym,
  IsDistinct-from_sorted,
)

-- what holds of an element or is equal to a lower one holds
not_first : {X : Type 0} (c : X → X → Ordering) → IsTotalOrder c → (P : X → Type 0) (x : X) (xs : List X) → EachOf (λ y. c x y ≡ Ordering.Less) xs →
    EachOf (λ y. (y ≡ x) ⊎ P y) xs → EachOf P xs
not_first c o P x xs above h =
    each _ _ xs (λ y both. elim both.1 [ inl same ↦ absurd (irreflexive c o x (ap (c x) (sym same) ∙ both.0)) | inr here ↦ here ]) (each_both _ _ xs above h)

-- lists that rise strictly and have the same elements are equal
same_from_elements : {X : Type 0} (c : X → X → Ordering) → IsTotalOrder c → (xs ys : List X) → IsStrictlySortedBy c xs → IsStrictlySortedBy c ys →
    ((P : X → Type 0) → AllByRecursion P xs → AllByRecursion P ys) → ((P : X → Type 0) → AllByRecursion P ys → AllByRecursion P xs) → xs ≡ ys
same_from_elements c o [] [] up down to from = refl
same_from_elements c o [] (y ∷ ys) up down to from = absurd ((to (λ _. ⊥) tt).0)
same_from_elements c o (x ∷ xs) [] up down to from = absurd ((from (λ _. ⊥) tt).0)
same_from_elements {X} c o (x ∷ xs) (y ∷ ys) up down to from =
    ap (λ z. z ∷ xs) (heads first second)
    ∙ ap (λ l. y ∷ l) (same_from_elements c o xs ys (sorted_tail c x xs up) (sorted_tail c y ys down) to_tail from_tail)
  where
    first : (y ≡ x) ⊎ (c x y ≡ Ordering.Less)
    first = (to (λ z. (z ≡ x) ⊎ (c x z ≡ Ordering.Less)) (inl refl, each _ _ xs (λ z less. inr less) (sorted_head c x xs up))).0

    second : (x ≡ y) ⊎ (c y x ≡ Ordering.Less)
    second = (from (λ z. (z ≡ y) ⊎ (c y z ≡ Ordering.Less)) (inl refl, each _ _ ys (λ z less. inr less) (sorted_head c y ys down))).0

    heads : (y ≡ x) ⊎ (c x y ≡ Ordering.Less) → (x ≡ y) ⊎ (c y x ≡ Ordering.Less) → x ≡ y
    heads g k = grind arith

    to_tail : (P : X → Type 0) → AllByRecursion P xs → AllByRecursion P ys
    to_tail P h = not_first c o P y ys (sorted_head c y ys down) ((to (λ z. (z ≡ y) ⊎ P z) (inl (heads first second), each _ _ xs (λ z p. inr p) h)).1)

    from_tail : (P : X → Type 0) → AllByRecursion P ys → AllByRecursion P xs
    from_tail P h = not_first c o P x xs (sorted_head c x xs up) ((from (λ z. (z ≡ x) ⊎ P z) (inl (sym (heads first second)), each _ _ ys (λ z p. inr p) h)).1)

-- a sorted list is the one order of its elements that rises strictly
pub same_sorted : {X : Type 0} (c : X → X → Ordering) → IsTotalOrder c → (xs ys : List X) → IsSorted c xs → IsStrictlySortedBy c ys
    → IsPermutation xs ys → xs ≡ ys
same_sorted c o xs ys up rises permuted = search (
  rules,
  same_from_elements,
  strictly-from_other,
  recursion_from_All,
  All-permutation,
  All-from_recursion,
  IsPermutation-sym,
)

-- what rises strictly is the one order of its elements that does
pub same_strictly : {X : Type 0} (c : X → X → Ordering) → IsTotalOrder c → (xs ys : List X) → IsStrictlySortedBy c xs
    → IsStrictlySortedBy c ys → IsPermutation xs ys → xs ≡ ys
same_strictly c o xs ys up down permuted = search (rules, same_from_elements, recursion_from_All, All-permutation, All-from_recursion, IsPermutation-sym)

-- a list with one element is the one order of it
pub same_single : {X : Type 0} (xs : List X) (y : X) → IsPermutation xs (y ∷ []) → xs ≡ y ∷ []
same_single xs y permuted =
    one xs (length_permutation xs (y ∷ []) permuted)
    (recursion_from_All
    (λ z. z ≡ y) xs (All-permutation (λ z. z ≡ y) (y ∷ []) xs (IsPermutation-sym xs (y ∷ []) permuted)
    (All-from_recursion (λ z. z ≡ y) (y ∷ []) (refl, tt))))
  where
    one : {X : Type 0} {y : X} (xs : List X) → length (y ∷ []) ≡ length xs → AllByRecursion (λ z. z ≡ y) xs → xs ≡ y ∷ []
    one [] e h = absurd (omega arith)
    one (x ∷ []) e h = ap (λ z. z ∷ []) h.0
    one (x ∷ z ∷ zs) e h = absurd (omega arith)
