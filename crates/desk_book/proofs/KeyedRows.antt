-- What a map's look-up, insertion and removal are on the rows that it holds.
use Rattle.std.proofs.Common.{◌≡◌, ℕ, Bool, true, false, cond, not, List, [], ◌∷◌, Option, Some, refl, sym, ap, ◌∙◌, arith, nat_cmp, is_eq, Ordering}
use Rattle.std.proofs.lemmas.{Bool.eqb-true, Bool.Decides.nat_tests, Map.Keys.sorted_head}
use Rattle.std.specs.{Prelude.◌==◌, Prelude.nat_lt, Prelude.find, List.AllByRecursion, List.AllZip, List.Sorted.IsStrictlySortedBy, Map.lookup}
use Rattle.std.specs.{Map.remove_entry, Map.keys_of, Map.values_of, BTreeMap.insert_entry, BTreeMap.is_at}
use Rattle.desk_model.specs.Change.{put, remove}
use Rattle.desk_book.specs.Keyed.{IsKeyed}

equal_test : (n k : ℕ) → is_eq (nat_cmp n k) ≡ (k == n)
equal_test n k = grind (arith, nat_tests)

found_choice : {X : Type 0} (b c : Bool) (x : X) (o p : Option X) → b ≡ c → o ≡ p → cond b (Some x) o ≡ cond c (Some x) p
found_choice b c x o p e f = ap (λ d. cond d (Some x) o) e ∙ ap (λ q. cond c (Some x) q) f

-- a look-up by number finds the row of that number
pub lookup-find : {X : Type 0} (number : X → ℕ) (n : ℕ) (es : List (ℕ × X)) → IsKeyed number es →
    lookup (is_at (nat_cmp n)) es ≡ find (λ r. number r == n) (values_of es)
lookup-find number n [] h = refl
lookup-find number n (e ∷ es) h = grind (arith, nat_tests, found_choice, equal_test, (lookup-find number n es h.1))

equal_cmp : (k n : ℕ) → (k == n) ≡ true → nat_cmp k n ≡ Ordering.Equal
equal_cmp k n h = grind (arith, nat_tests)

less_cmp : (k n : ℕ) → nat_lt k n ≡ true → nat_cmp k n ≡ Ordering.Less
less_cmp k n h = grind (arith, nat_tests)

greater_cmp : (k n : ℕ) → (k == n) ≡ false → nat_lt k n ≡ false → nat_cmp k n ≡ Ordering.Greater
greater_cmp k n h l = grind (arith, nat_tests)

-- an insertion puts the row into its place
pub insert-put : {X : Type 0} (number : X → ℕ) (x : X) (es : List (ℕ × X)) → IsKeyed number es →
    values_of (insert_entry nat_cmp es (number x) x) ≡ put number x (values_of es)
insert-put number x [] h = refl
insert-put {X} number x (e ∷ es) h = grind (arith, nat_tests, equal_cmp, less_cmp, greater_cmp, (insert-put number x es h.1))

-- the keys are the numbers of the rows after an insertion, too
pub IsKeyed-insert : {X : Type 0} (number : X → ℕ) (x : X) (es : List (ℕ × X)) → IsKeyed number es →
    IsKeyed number (insert_entry nat_cmp es (number x) x)
IsKeyed-insert number x [] h = (refl, tt)
IsKeyed-insert {X} number x (e ∷ es) h = grind (arith, nat_tests, equal_test, eqb-true, (IsKeyed-insert number x es h.1))

-- the keys are the numbers of the rows after a removal, too
pub IsKeyed-remove : {X : Type 0} (number : X → ℕ) (n : ℕ) (es : List (ℕ × X)) → IsKeyed number es →
    IsKeyed number (remove_entry (is_at (nat_cmp n)) es)
IsKeyed-remove number n [] h = tt
IsKeyed-remove {X} number n (e ∷ es) h = grind (arith, nat_tests, (IsKeyed-remove number n es h.1))

no_number : (n k : ℕ) → nat_cmp n k ≡ Ordering.Less → (n == k) ≡ false
no_number n k h = grind (arith, nat_tests)

-- a filter that no row fails keeps all
none_removed : {X : Type 0} (number : X → ℕ) (n : ℕ) (es : List (ℕ × X)) → IsKeyed number es → AllByRecursion (λ k. nat_cmp n k ≡ Ordering.Less) (keys_of es) →
    remove number n (values_of es) ≡ values_of es
none_removed number n [] h a = refl
none_removed {X} number n (e ∷ es) h a = grind (arith, nat_tests, no_number, (none_removed number n es h.1 a.1))

-- a removal by number leaves the other rows
pub remove-remove : {X : Type 0} (number : X → ℕ) (n : ℕ) (es : List (ℕ × X)) → IsKeyed number es → IsStrictlySortedBy nat_cmp (keys_of es) →
    values_of (remove_entry (is_at (nat_cmp n)) es) ≡ remove number n (values_of es)
unfolding IsStrictlySortedBy
remove-remove number n [] h s = refl
remove-remove {X} number n (e ∷ es) h s = by (is_eq (nat_cmp n e.0)) refl (remove-remove number n es h.1 s.1)
  where
    same : (b : Bool) → is_eq (nat_cmp n e.0) ≡ b → (n == number e.1) ≡ b
    same g i = grind (arith, nat_tests, equal_test, nat_tests)

    by : (b : Bool) → is_eq (nat_cmp n e.0) ≡ b → values_of (remove_entry (is_at (nat_cmp n)) es) ≡ remove number n (values_of es) →
        values_of (cond b es (e ∷ remove_entry (is_at (nat_cmp n)) es))
        ≡ cond (not (n == number e.1)) (e.1 ∷ remove number n (values_of es)) (remove number n (values_of es))
    by true p ih =
        sym (none_removed number n es h.1 (above p))
        ∙ sym (ap (λ c. cond (not c) (e.1 ∷ remove number n (values_of es)) (remove number n (values_of es))) (same true p))
      where
        above : is_eq (nat_cmp n e.0) ≡ true → AllByRecursion (λ k. nat_cmp n k ≡ Ordering.Less) (keys_of es)
        above p = rw (eqb-true e.0 n (sym (equal_test n e.0) ∙ p)) at (sorted_head nat_cmp e.0 (keys_of es) s)
    by false p ih =
        ap (λ l. e.1 ∷ l) ih
        ∙ sym (ap (λ c. cond (not c) (e.1 ∷ remove number n (values_of es)) (remove number n (values_of es))) (same false p))

-- entries whose keys and rows are clones are the entries themselves
pub clones_same : {X : Type 0} (C : X → X → Type 0) → ((x y : X) → C x y → y ≡ x) → (es fs : List (ℕ × X))
    → AllZip (λ p q. (q.0 ≡ p.0) × C p.1 q.1) es fs → fs ≡ es
clones_same C same [] [] h = refl
clones_same C same [] (f ∷ fs) h = absurd h
clones_same C same (e ∷ es) [] h = absurd h
clones_same C same (e ∷ es) (f ∷ fs) h = λ i. (h.0.0 i, same e.1 f.1 h.0.1 i) ∷ clones_same C same es fs h.1 i
