-- Rows that are found, in any order and any number of times, and the table that they make.
use Rattle.std.proofs.Common.{◌≡◌, ℕ, ◌+◌, List, [], ◌∷◌, ◌++◌, filter, Some, refl, sym, ap, ◌∙◌, true, false, Bool, cond, arith}
use Rattle.std.proofs.{lemmas.List.Folds.list_any-append, Math.Bool.or-false}
use Rattle.std.specs.{Prelude.◌==◌, Prelude.◌&&◌, Prelude.◌||◌, Prelude.find, List.list_any, List.flat_map}
use Rattle.desk_model.specs.{Change.put, Kept.EachOf}
use Rattle.model_laws.specs.{Ordered.Ascends, Placing.puts}
use Rattle.model_laws.proofs.Basics.{any_or, each, each_all, each-append, list_any-same}
use Rattle.model_laws.proofs.RowLists.{Above, ascends_above, ascends_found, put_first}
use Rattle.model_parts.proofs.{Cut.at_number, Cut.numbered, Lists.filter_nothing, Lists.filter_same, Lists.filtered_each}

-- what is found holds of these rows just those that pass a test
pub record IsFound {X : Type 0} (number : X → ℕ) (test : X → Bool) (xs found : List X) : Type 0 where
  pub from : EachOf (λ y. find (λ x. number x == number y) xs ≡ Some y) found
  pub tests : (p : X → Bool) → list_any p found ≡ list_any (λ x. test x && p x) xs

-- rows that pass
pub any_filter : {X : Type 0} (test p : X → Bool) (xs : List X) → list_any p (filter test xs) ≡ list_any (λ x. test x && p x) xs
any_filter test p [] = refl
any_filter test p (x ∷ xs) = grind (arith, (any_filter test p xs))

-- the rows that pass are found
pub found_filter : {X : Type 0} {number : X → ℕ} {test : X → Bool} {xs : List X} → Ascends number 1 xs → IsFound number test xs (filter test xs)
found_filter h = grind (arith, filtered_each, each, ascends_found, any_filter)

-- nothing passes a test that never holds
any_false : {X : Type 0} (xs : List X) → false ≡ list_any (λ x. false) xs
any_false [] = refl
any_false (x ∷ xs) = any_false xs

-- so nothing is found by it
pub found_none : {X : Type 0} (number : X → ℕ) (xs : List X) → IsFound number (λ x. false) xs []
found_none number xs = record { from = tt; tests = λ p. any_false xs }

-- rows of two look-ups
pub found_both : {X : Type 0} {number : X → ℕ} {p q : X → Bool} {xs ys zs : List X} → IsFound number p xs ys → IsFound number q xs zs →
    IsFound number (λ x. p x || q x) xs (ys ++ zs)
found_both {number} {p} {q} {xs} {ys} {zs} h k =
    record {
      from = each-append _ ys zs h.from k.from;
      tests = λ r.
          list_any-append r ys zs
          ∙ (λ i. h.tests r i || k.tests r i)
          ∙ sym (any_or (λ x. p x && r x) (λ x. q x && r x) xs)
          ∙ list_any-same (λ x. (p x && r x) || (q x && r x)) (λ x. (p x || q x) && r x) xs (λ x. by (p x) (q x) (r x));
    }
  where
    by : (a b c : Bool) → ((a && c) || (b && c)) ≡ ((a || b) && c)
    by a b c = grind arith

-- rows of a look-up for each of some items
pub found_by : {X K : Type 0} {number : X → ℕ} {test : K → X → Bool} {look : K → List X} {xs : List X} → ((k : K) → IsFound number (test k) xs (look k)) →
    (ks : List K) → IsFound number (λ x. list_any (λ k. test k x) ks) xs (flat_map look ks)
found_by {number = number} {xs = xs} h [] = found_none number xs
found_by h (k ∷ ks) = found_both (h k) (found_by h ks)

-- by a test that is the same on each row
pub found_same : {X : Type 0} {number : X → ℕ} {p q : X → Bool} {xs ys : List X} → IsFound number p xs ys → EachOf (λ x. p x ≡ q x) xs → IsFound number q xs ys
found_same {p = p} {q = q} {xs = xs} h same = record { from = h.from; tests = λ r. h.tests r ∙ any_each xs same r }
  where
    any_each : (zs : List _) → EachOf (λ x. p x ≡ q x) zs → (r : _ → Bool) → list_any (λ x. p x && r x) zs ≡ list_any (λ x. q x && r x) zs
    any_each [] e r = refl
    any_each (z ∷ zs) e r = λ i. (e.0 i && r z) || any_each zs e.1 r i

-- by a test that is the same on all there may be
pub found_alike : {X : Type 0} {number : X → ℕ} {p q : X → Bool} {xs ys : List X} → IsFound number p xs ys → ((x : X) → p x ≡ q x) → IsFound number q xs ys
found_alike {xs = xs} h same = found_same h (each_all _ xs same)

-- rows that lie by one of those found
pub found_beside : {X Y : Type 0} {number : X → ℕ} {mark : Y → ℕ} {beside : Y → X → Bool} {test : Y → Bool} {look : Y → List X} {xs : List X}
    {ys rows : List Y} → ((y : Y) → IsFound number (beside y) xs (look y)) → IsFound mark test ys rows
    → IsFound number (λ x. list_any (λ y. test y && beside y x) ys) xs (flat_map look rows)
found_beside {beside = beside} {rows = rows} looked is = found_alike (found_by looked rows) (λ x. is.tests (λ y. beside y x))

-- those of them that pass one more test
pub found_filtered : {X : Type 0} {number : X → ℕ} (p : X → Bool) {test : X → Bool} {xs ys : List X} → IsFound number test xs ys →
    IsFound number (λ x. p x && test x) xs (filter p ys)
found_filtered p h = grind (arith, filtered_each, each, any_filter, list_any-same)

-- where a condition holds
pub found_if : {X : Type 0} {number : X → ℕ} (b : Bool) {test : X → Bool} {xs ys : List X} → IsFound number test xs ys →
    IsFound number (λ x. b && test x) xs (cond b ys [])
found_if true h = h
found_if {number = number} false {xs = xs} h = found_none number xs

-- ---- the table that they make

-- what passes of rows above a number is above it
above_filter : {X : Type 0} (number : X → ℕ) (p : X → Bool) (n : ℕ) (xs : List X) → Above number n xs → Above number n (filter p xs)
above_filter number p n xs h = filtered_each _ p xs (each _ _ xs (λ x f yes. f) h)

-- a row of these, put among some of them
put_filter : {X : Type 0} (number : X → ℕ) (y : X) (p : X → Bool) (n : ℕ) (xs : List X) → Ascends number n xs → find (λ x. number x == number y) xs ≡ Some y →
    put number y (filter p xs) ≡ filter (λ x. (number y == number x) || p x) xs
put_filter number y p n [] h e = cc
put_filter number y p n (x ∷ xs) h e = grind (
  arith,
  filter_same,
  each,
  put_first,
  above_filter,
  (put_filter number y p (number x + 1) xs h.1),
  (ascends_above number (number x) (number x + 1) xs (omega arith) h.1),
)

-- rows of these, put among some of them
pub puts_filter : {X : Type 0} (number : X → ℕ) (n : ℕ) (xs : List X) → Ascends number n xs → (found : List X) → (p : X → Bool) →
    EachOf (λ y. find (λ x. number x == number y) xs ≡ Some y) found →
    puts number found (filter p xs) ≡ filter (λ x. list_any (λ y. number y == number x) found || p x) xs
puts_filter number n xs h [] p f = refl
puts_filter number n xs h (y ∷ ys) p f =
    ap (puts number ys) (put_filter number y p n xs h f.0)
    ∙ puts_filter number n xs h ys (λ x. (number y == number x) || p x) f.1
    ∙ filter_all_same xs
  where
    turn : (a b c : Bool) → (b || (a || c)) ≡ ((a || b) || c)
    turn a b c = grind arith

    filter_all_same : (zs : List _) → filter (λ x. list_any (λ w. number w == number x) ys || ((number y == number x) || p x)) zs
        ≡ filter (λ x. ((number y == number x) || list_any (λ w. number w == number x) ys) || p x) zs
    filter_all_same zs = grind arith

-- what is found makes the table of the rows that pass
pub found_table : {X : Type 0} (number : X → ℕ) (test : X → Bool) (n : ℕ) (xs found : List X) → Ascends number n xs → IsFound number test xs found →
    puts number found [] ≡ filter test xs
found_table number test n xs found h is =
    ap (puts number found) (filter_nothing xs)
    ∙ puts_filter number n xs h found (λ x. false) is.from
    ∙ filter_same _ test xs
    (each _ _ xs (λ x e. or-false _ ∙ is.tests (λ y. number y == number x) ∙ swap xs x ∙ e) (numbered number test n xs h))
  where
    turn : (a b : Bool) → (a && b) ≡ (b && a)
    turn a b = grind arith

    swap : (zs : List _) (x : _) → list_any (λ y. test y && (number y == number x)) zs ≡ at_number number test zs (number x)
    swap zs x = list_any-same _ _ zs (λ y. turn (test y) (number y == number x))

-- each row once is found as well
pub found_once : {X : Type 0} {number : X → ℕ} {test : X → Bool} {xs found : List X} → Ascends number 1 xs → IsFound number test xs found →
    IsFound number test xs (puts number found [])
found_once {number = number} {test = test} {xs = xs} {found = found} h is = rw (found_table number test 1 xs found h is) (found_filter h)
