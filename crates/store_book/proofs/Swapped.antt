-- What is made of each element moves with it.
use Rattle.std.proofs.Common.{◌≡◌, ℕ, ◌<◌, Option, append_assoc, List, [], ◌∷◌, ◌++◌, refl, sym, ap, ◌∙◌, map, length, set, arith, IsPermutation, rules, zero}
use Rattle.std.proofs.Common.{suc, get_or}
use Rattle.std.proofs.lemmas.List.Sorted.{IsPermutation-trans, IsPermutation-keeps, IsPermutation-refl, IsPermutation-swap, IsPermutation-append_left}
use Rattle.std.proofs.lemmas.List.Sorted.{IsPermutation-append_right, IsPermutation-append_comm}
use Rattle.std.proofs.{lemmas.List.map-set, lemmas.List.length-map, Math.ListN.get_or-map}
use Rattle.std.specs.List.{cons_option, filter_map, flat_map, swap}

-- two elements change places as what is made of them does
map-swap : {X Y : Type 0} (f : X → Y) (xs : List X) (i j : ℕ) → map f (swap xs i j) ≡ swap (map f xs) i j
map-swap f xs i j = search (rules, map-set, get_or-map)

-- two parts before a third in each other's place
turned : {B : Type 0} (p q r : List B) → IsPermutation (p ++ (q ++ r)) (q ++ (p ++ r))
turned p q r = rw (append_assoc p q r, append_assoc q p r) at (IsPermutation-append_left r _ _ (IsPermutation-append_comm p q))

-- an element and one behind it in each other's place
flat-first : {X B : Type 0} (f : X → List B) (x d : X) (xs : List X) (j : ℕ) → j < length xs
    → IsPermutation (f x ++ flat_map f xs) (f (get_or xs j d) ++ flat_map f (set xs j x))
flat-first f x d [] j within = absurd (omega (arith, within))
flat-first f x d (z ∷ zs) zero within = turned (f x) (f z) (flat_map f zs)
flat-first f x d (z ∷ zs) (suc j) within =
    IsPermutation-trans _ _ _ (turned (f x) (f z) (flat_map f zs))
    (IsPermutation-trans _ _ _ (IsPermutation-append_right (f z) _ _ (flat-first f x d zs j (omega (arith, within))))
    (turned (f z) (f (get_or zs j d)) (flat_map f (set zs j x))))

-- two elements in each other's place
flat-sets : {X B : Type 0} (f : X → List B) (d : X) (l : List X) (i j : ℕ) → i < length l → j < length l
    → IsPermutation (flat_map f l) (flat_map f (set (set l i (get_or l j d)) j (get_or l i d)))
flat-sets f d [] i j a b = absurd (omega (arith, a))
flat-sets f d (x ∷ xs) zero zero a b = IsPermutation-refl _
flat-sets f d (x ∷ xs) zero (suc j) a b = flat-first f x d xs j (omega (arith, b))
flat-sets f d (x ∷ xs) (suc i) zero a b = flat-first f x d xs i (omega (arith, a))
flat-sets f d (x ∷ xs) (suc i) (suc j) a b = IsPermutation-append_right (f x) _ _ (flat-sets f d xs i j (omega (arith, a)) (omega (arith, b)))

-- as they change places
flat-swap : {X B : Type 0} (f : X → List B) (l : List X) (i j : ℕ) → i < length l → j < length l → IsPermutation (flat_map f l) (flat_map f (swap l i j))
flat-swap f [] i j a b = absurd (omega (arith, a))
flat-swap f (d ∷ ls) i j a b = flat-sets f d (d ∷ ls) i j a b

-- what is made of elements in another order is in another order
pub flat-permutation : {X B : Type 0} (f : X → List B) (zs ws : List X) → IsPermutation zs ws → IsPermutation (flat_map f zs) (flat_map f ws)
flat-permutation {X} f zs ws p =
    IsPermutation-keeps zs (λ l. IsPermutation (flat_map f zs) (flat_map f l)) (IsPermutation-refl _)
    (λ l i j a b h. IsPermutation-trans _ _ _ h (flat-swap f l i j a b)) ws p

-- what is made of some elements, as lists of one or none
picked_flat : {X Y : Type 0} (h : X → Option Y) (xs : List X) → flat_map (λ x. cons_option (h x) []) xs ≡ filter_map h xs
picked_flat h [] = refl
picked_flat h (x ∷ xs) = grind (arith, (picked_flat h xs))

-- what is made of some elements moves with them
pub picked-permutation : {X Y : Type 0} (h : X → Option Y) (xs ys : List X) → IsPermutation xs ys → IsPermutation (filter_map h xs) (filter_map h ys)
picked-permutation h xs ys permuted = rw (sym (picked_flat h xs), sym (picked_flat h ys)) (flat-permutation (λ x. cons_option (h x) []) xs ys permuted)

-- a list whose image is another list in another order stands in that order
pub lifted : {X Y : Type 0} (f : X → Y) (xs : List X) (ys : List Y) → IsPermutation (map f xs) ys → (zs : List X) × IsPermutation xs zs × (map f zs ≡ ys)
lifted {X} f xs ys permuted =
    IsPermutation-keeps (map f xs) (λ l. (zs : List X) × IsPermutation xs zs × (map f zs ≡ l)) (xs, IsPermutation-refl xs, refl)
    (λ l i j low lower h.
    let long : length l ≡ length h.0 = sym (ap length h.2) ∙ length-map h.0 f in (
      swap h.0 i j,
      IsPermutation-trans xs h.0 (swap h.0 i j) h.1 (IsPermutation-swap h.0 (swap h.0 i j) i j (omega (arith, low, long)) (omega (arith, lower, long)) refl),
      map-swap f h.0 i j ∙ ap (λ m. swap m i j) h.2,
    )) ys permuted
