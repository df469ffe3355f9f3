-- What a sort tells of repeated keys, and when the rows of these keys have different ones.
use Rattle.std.proofs.Common.{◌≡◌, ℕ, ◌+◌, Bool, true, false, List, [], ◌∷◌, map, get_or, sym, ◌∙◌, subst, arith, Ordering, is_lt, is_eq, nat_cmp, rules}
use Rattle.std.proofs.lemmas.Map.Keys.{IsDistinct-from_sorted, IsDistinct-IsPermutation, Less-from_sorted, sorted_from_all_adjacent}
use Rattle.std.proofs.{lemmas.Bool.Decides.nat_tests, lemmas.List.Sorted.IsPermutation-sym}
use Rattle.std.specs.List.Sorted.{IsSorted, IsStrictlySortedBy, IsPermutation}
use Rattle.std.specs.{Prelude.◌↔◌, Prelude.IsTrue, Cmp.IsTotalOrder, List.IsAllAdjacentAnswer, List.IsDistinct, Ordering.eq_by_cmp}
use Rattle.model_laws.specs.Distinct.{Distinct}
use Rattle.store_book.proofs.SortedLists.{equal_flips, strictly-from_distinct}
use Rattle.model_laws.proofs.{Distinctness.distinct-map, Distinctness.map-distinct, Basics.each}

-- an order that says less
less : (r : Ordering) → is_lt r ≡ true → r ≡ Ordering.Less
less r h = search rules

-- an element is equal to itself
pub equal_self : {X : Type 0} (c : X → X → Ordering) → IsTotalOrder c → (x : X) → is_eq (c x x) ≡ true
equal_self c o x = search rules

-- neighbours that each are below the next tell that no key stands twice
rising : {X : Type 0} (c : X → X → Ordering) → IsTotalOrder c → (xs : List X) → IsAllAdjacentAnswer (λ x y b. b ≡ is_lt (c x y)) xs true
    → IsStrictlySortedBy c xs
unfolding IsStrictlySortedBy
rising c o [] h = tt
rising c o (x ∷ xs) h = sorted_from_all_adjacent o (x ∷ xs) x (λ k lt. less (c (get_or (x ∷ xs) k x) (get_or (x ∷ xs) (k + 1) x)) (sym (h k x lt)))

-- two neighbours that are not tell that one does
not_rising : {X : Type 0} (c : X → X → Ordering) → IsTotalOrder c → (xs : List X)
    → IsAllAdjacentAnswer (λ x y b. b ≡ is_lt (c x y)) xs false → IsStrictlySortedBy c xs → ⊥
not_rising c o [] h up = absurd (omega (arith, h.1))
not_rising c o (x ∷ xs) h up = grind (arith, (Less-from_sorted c (x ∷ xs) h.0 (h.0 + 1) x up (omega arith) h.1))

-- sorted keys tell whether one stands twice
pub distinct-answer : {X : Type 0} (c : X → X → Ordering) → IsTotalOrder c → (xs ys : List X) → IsPermutation xs ys → IsSorted c ys → (r : Bool) →
    IsAllAdjacentAnswer (λ x y b. b ≡ is_lt (c x y)) ys r → IsTrue r ↔ IsDistinct (eq_by_cmp c) xs
distinct-answer c o xs ys permuted up true h = search (rules, IsDistinct-IsPermutation, equal_flips, IsPermutation-sym, IsDistinct-from_sorted, rising)
distinct-answer c o xs ys permuted up false h = (
  λ e. absurd (let clash : false ≡ true = e in cc),
  λ apart. absurd (not_rising c o ys h (strictly-from_distinct c o ys up (IsDistinct-IsPermutation (eq_by_cmp c) (equal_flips c o) xs ys permuted apart))),
)

-- ---- from keys to the rows that have them

-- keys none of which stands twice have different values, where equal values are of equal keys
distinct-values : {K Y : Type 0} (e : K → K → Bool) (value : K → Y) → ((k l : K) → value k ≡ value l → e k l ≡ true) → (ks : List K)
    → IsDistinct e ks → Distinct value ks
unfolding IsDistinct
distinct-values e value equal [] h = tt
distinct-values e value equal (k ∷ ks) h = (
  each _ _ ks (λ l apart same. absurd (let clash : true ≡ false = sym (equal k l same) ∙ apart in cc)) h.0,
  distinct-values e value equal ks h.1,
)

-- a test that does not hold fails
differ : (b : Bool) → (b ≡ true → ⊥) → b ≡ false
differ b fails = grind arith

-- keys of different values stand once each, where equal keys have equal values
pub values-distinct : {K Y : Type 0} (e : K → K → Bool) (value : K → Y) → ((k l : K) → e k l ≡ true → value k ≡ value l) → (ks : List K)
    → Distinct value ks → IsDistinct e ks
unfolding IsDistinct
values-distinct e value same [] h = tt
values-distinct e value same (k ∷ ks) h = (each _ _ ks (λ l apart. differ (e k l) (λ equal. apart (same k l equal))) h.0, values-distinct e value same ks h.1)

-- rows whose keys are these have different ones exactly where no key stands twice
pub distinct-rows : {K X Y : Type 0} (c : K → K → Ordering) (key : K → Y) (value : X → Y) →
    ((k l : K) → key k ≡ key l → is_eq (c k l) ≡ true) → ((k l : K) → is_eq (c k l) ≡ true → key k ≡ key l) →
    (ks : List K) (xs : List X) → map key ks ≡ map value xs → (r : Bool) → IsTrue r ↔ IsDistinct (eq_by_cmp c) ks → IsTrue r ↔ Distinct value xs
distinct-rows c key value equal same ks xs are r says = (
  λ yes. map-distinct value xs (subst (Distinct (λ y. y)) are (distinct-map (λ y. y) key ks (distinct-values (eq_by_cmp c) key equal ks (says.0 yes)))),
  λ apart. says.1 (values-distinct (eq_by_cmp c) key same ks (map-distinct key ks
      (subst (Distinct (λ y. y)) (sym are) (distinct-map (λ y. y) value xs apart)))),
)

-- numbers are equal exactly where the order says so
pub equal-numbers : (m n : ℕ) → is_eq (nat_cmp m n) ≡ true → m ≡ n
equal-numbers m n h = grind (arith, nat_tests)

-- and the order says so where they are
pub numbers-equal : (m n : ℕ) → m ≡ n → is_eq (nat_cmp m n) ≡ true
numbers-equal m n h = grind (arith, nat_tests)
