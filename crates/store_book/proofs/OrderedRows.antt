-- Rows that stand by number rise strictly, and so do their children by owner and number.
use Rattle.std.proofs.Common.{◌≡◌, ℕ, ◌+◌, ◌<◌, List, [], ◌∷◌, ◌++◌, nat_cmp, ap, arith, Ordering, rules}
use Rattle.std.proofs.lemmas.Bool.Decides.{nat_tests}
use Rattle.std.specs.Cmp.{IsTotalOrder, nat_cmp_total, on_total, then_total}
use Rattle.std.specs.{List.AllByRecursion, Ordering.ordering_then, List.Sorted.IsStrictlySortedBy, List.Sorted.IsPermutation}
use Rattle.desk_model.specs.Kept.{EachOf}
use Rattle.model_laws.specs.Ordered.{Ascends}
use Rattle.store_columns.specs.Flat.{owned_by}
use Rattle.store_book.specs.Nesting.{by_number, by_owner, child_rows}
use Rattle.store_book.proofs.SortedLists.{same_strictly}
use Rattle.model_laws.proofs.Basics.{each-append}

-- the order by number is total
by_number-total : {X : Type 0} (number : X → ℕ) → IsTotalOrder (by_number number)
by_number-total number = on_total number nat_cmp_total

-- and that by owner, then by number
pub by_owner-total : {T : Type 0} (number : T → ℕ) → IsTotalOrder (by_owner number)
by_owner-total number = then_total (on_total (λ r. r.owner) nat_cmp_total) (on_total (λ r. number r.row) nat_cmp_total)

-- a lower number is below
less_at : (m n : ℕ) → m < n → nat_cmp m n ≡ Ordering.Less
less_at m n h = grind (arith, nat_tests)

-- a number is equal to itself
equal_at : (n : ℕ) → nat_cmp n n ≡ Ordering.Equal
equal_at n = grind (arith, nat_tests)

-- rows from a higher number on are above a lower one
above_from_ascends : {X : Type 0} (number : X → ℕ) (k n : ℕ) (xs : List X) → k < n → Ascends number n xs
    → AllByRecursion (λ y. nat_cmp k (number y) ≡ Ordering.Less) xs
above_from_ascends number k n [] lt h = tt
above_from_ascends number k n (x ∷ xs) lt h = grind (arith, less_at, (above_from_ascends number k (number x + 1) xs (omega arith) h.1))

-- rows by number rise strictly
strictly-from_ascends : {X : Type 0} (number : X → ℕ) (n : ℕ) (xs : List X) → Ascends number n xs → IsStrictlySortedBy (by_number number) xs
unfolding IsStrictlySortedBy
strictly-from_ascends number n [] h = tt
strictly-from_ascends number n (x ∷ xs) h = grind (arith, above_from_ascends, (strictly-from_ascends number (number x + 1) xs h.1))

-- what rises strictly, before what is above it
strictly-append : {X : Type 0} (c : X → X → Ordering) (xs ys : List X) → IsStrictlySortedBy c xs → IsStrictlySortedBy c ys →
    AllByRecursion (λ x. AllByRecursion (λ y. c x y ≡ Ordering.Less) ys) xs → IsStrictlySortedBy c (xs ++ ys)
unfolding IsStrictlySortedBy
strictly-append c [] ys up down h = down
strictly-append c (x ∷ xs) ys up down h = (each-append _ xs ys up.0 h.0, strictly-append c xs ys up.1 down h.1)

-- children from a higher owner on are above one of a lower owner
above_owner : {T : Type 0} (number : T → ℕ) (k : ℕ) (t : T) (n : ℕ) (us : List T) → k < n
    → AllByRecursion (λ y. by_owner number (record { owner = k; row = t }) y ≡ Ordering.Less) (owned_by n us)
above_owner number k t n [] lt = tt
above_owner number k t n (u ∷ us) lt = (ap (λ o. ordering_then o (nat_cmp (number t) (number u))) (less_at k n lt), above_owner number k t n us lt)

-- a child of a lower owner is below all children
above_owners : {P T : Type 0} (number : P → ℕ) (children : P → List T) (child_number : T → ℕ) (k : ℕ) (t : T) (n : ℕ) (ps : List P) → k < n
    → Ascends number n ps →
    AllByRecursion (λ y. by_owner child_number (record { owner = k; row = t }) y ≡ Ordering.Less) (child_rows number children ps)
above_owners number children child_number k t n [] lt h = tt
above_owners number children child_number k t n (p ∷ ps) lt h = grind (
  arith,
  each-append,
  (above_owners number children child_number k t (number p + 1) ps (omega arith) h.1),
  (above_owner child_number k t (number p) (children p) (omega arith)),
)

-- and so are all of its children
all_above_owners : {P T : Type 0} (number : P → ℕ) (children : P → List T) (child_number : T → ℕ) (k : ℕ) (ts : List T) (n : ℕ)
    (ps : List P) → k < n → Ascends number n ps →
    AllByRecursion (λ x. AllByRecursion (λ y. by_owner child_number x y ≡ Ordering.Less) (child_rows number children ps)) (owned_by k ts)
all_above_owners number children child_number k [] n ps lt h = tt
all_above_owners number children child_number k (t ∷ ts) n ps lt h =
    (above_owners number children child_number k t n ps lt h, all_above_owners number children child_number k ts n ps lt h)

-- a child is below those of its owner that have higher numbers
above_sibling : {T : Type 0} (number : T → ℕ) (k : ℕ) (t : T) (n : ℕ) (us : List T) → number t < n → Ascends number n us →
    AllByRecursion (λ y. by_owner number (record { owner = k; row = t }) y ≡ Ordering.Less) (owned_by k us)
above_sibling number k t n [] lt h = tt
above_sibling number k t n (u ∷ us) lt h = grind (arith, equal_at, less_at, (above_sibling number k t (number u + 1) us (omega arith) h.1))

-- the children of one row, by number
strictly-siblings : {T : Type 0} (number : T → ℕ) (k n : ℕ) (ts : List T) → Ascends number n ts → IsStrictlySortedBy (by_owner number) (owned_by k ts)
unfolding IsStrictlySortedBy
strictly-siblings number k n [] h = tt
strictly-siblings number k n (t ∷ ts) h = (above_sibling number k t (number t + 1) ts (omega arith) h.1, strictly-siblings number k (number t + 1) ts h.1)

-- the children of rows by number, each row's by number, rise strictly by owner and number
pub strictly-children : {P T : Type 0} (number : P → ℕ) (children : P → List T) (child_number : T → ℕ) (n : ℕ) (ps : List P) → Ascends number n ps →
    EachOf (λ p. Ascends child_number 1 (children p)) ps → IsStrictlySortedBy (by_owner child_number) (child_rows number children ps)
unfolding IsStrictlySortedBy
strictly-children number children child_number n [] h own = tt
strictly-children number children child_number n (p ∷ ps) h own = grind (
  arith,
  strictly-append,
  strictly-siblings,
  (strictly-children number children child_number (number p + 1) ps h.1 own.1),
  (all_above_owners number children child_number (number p) (children p) (number p + 1) ps (omega arith) h.1),
)

-- rows by number with the same elements are equal
pub same_ascending : {X : Type 0} (number : X → ℕ) (m n : ℕ) (xs ys : List X) → Ascends number m xs → Ascends number n ys → IsPermutation xs ys → xs ≡ ys
same_ascending number m n xs ys up down permuted = search (rules, same_strictly, by_number-total, strictly-from_ascends)
