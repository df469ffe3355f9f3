-- Rows put into their places by number.
use Rattle.std.proofs.Common.{Some, None, ◌≡◌, ◌≤◌, ◌<◌, ℕ, ◌+◌, List, [], ◌∷◌, ◌++◌, map, filter, refl, sym, ap, ◌∙◌, append-nil, append_assoc, false, Bool}
use Rattle.std.proofs.Common.{cond, arith, not}
use Rattle.std.specs.Prelude.{find, ◌==◌}
use Rattle.desk_model.specs.{Change.put, Change.remove, Change.moved_rows, Kept.EachOf}
use Rattle.model_laws.specs.{Ordered.Ascends, Ordered.Below, Placing.puts, Placing.removes}
use Rattle.model_laws.proofs.Basics.{less_differs, more_differs, each, each_all, each-append, map-each, IsNumbered}

-- from a lower number on
pub ascends_from : {X : Type 0} (number : X → ℕ) (m n : ℕ) (xs : List X) → m ≤ n → Ascends number n xs → Ascends number m xs
ascends_from number m n [] le h = tt
ascends_from number m n (x ∷ xs) le h = ((let a : n ≤ number x = h.0 in omega arith), h.1)

-- numbers that count up ascend
pub numbered_ascends : {X : Type 0} (number : X → ℕ) (n : ℕ) (xs : List X) → IsNumbered number n xs → Ascends number n xs
numbered_ascends number n [] h = tt
numbered_ascends number n (x ∷ xs) h = grind (arith, (numbered_ascends number (n + 1) xs h.1))

-- maps that keep numbers keep their order
pub ascends_map : {X Y : Type 0} (number : X → ℕ) (other : Y → ℕ) (f : X → Y) (same : (x : X) → other (f x) ≡ number x) (n : ℕ) (xs : List X) →
    Ascends number n xs → Ascends other n (map f xs)
ascends_map number other f same n [] h = tt
ascends_map number other f same n (x ∷ xs) h = grind (arith, (ascends_map number other f same (number x + 1) xs h.1))

-- what is left ascends
pub ascends_filter : {X : Type 0} (number : X → ℕ) (p : X → Bool) (n : ℕ) (xs : List X) → Ascends number n xs → Ascends number n (filter p xs)
ascends_filter number p n [] h = tt
ascends_filter number p n (x ∷ xs) h = grind (arith, ascends_from, (ascends_filter number p (number x + 1) xs h.1))

-- maps that keep numbers keep them below
pub below_map : {X Y : Type 0} (number : X → ℕ) (other : Y → ℕ) (f : X → Y) (same : (x : X) → other (f x) ≡ number x) (k : ℕ) (xs : List X) →
    Below number k xs → Below other k (map f xs)
below_map number other f same k [] h = tt
below_map number other f same k (x ∷ xs) h =
    ((let e : other (f x) ≡ number x = same x in let lt : number x < k = h.0 in omega arith), below_map number other f same k xs h.1)

-- what is left is below
pub below_filter : {X : Type 0} (number : X → ℕ) (p : X → Bool) (k : ℕ) (xs : List X) → Below number k xs → Below number k (filter p xs)
below_filter number p k [] h = tt
below_filter number p k (x ∷ xs) h = grind (arith, (below_filter number p k xs h.1))

-- each number is above n
abbrev pub Above : {X : Type 0} → (X → ℕ) → ℕ → List X → Type 0
Above number n xs = EachOf (λ x. n < number x) xs

-- numbers that ascend are above the first
pub ascends_above : {X : Type 0} (number : X → ℕ) (n m : ℕ) (xs : List X) → n < m → Ascends number m xs → Above number n xs
ascends_above number n m [] lt h = tt
ascends_above number n m (x ∷ xs) lt h = let a : m ≤ number x = h.0 in (omega arith, ascends_above number n (number x + 1) xs (omega arith) h.1)

-- a row is put behind one with a lower number
pub put_past : {X : Type 0} (number : X → ℕ) (x y : X) (ys : List X) → number y < number x → put number x (y ∷ ys) ≡ y ∷ put number x ys
put_past number x y ys h = grind arith

-- it takes the place of one with its number
pub put_instead : {X : Type 0} (number : X → ℕ) (x y : X) (ys : List X) → number y ≡ number x → put number x (y ∷ ys) ≡ x ∷ ys
put_instead number x y ys same = grind arith

-- and goes before one with a greater number
pub put_before : {X : Type 0} (number : X → ℕ) (x y : X) (ys : List X) → number x < number y → put number x (y ∷ ys) ≡ x ∷ y ∷ ys
put_before number x y ys h = grind arith

-- a row below all others comes first
pub put_first : {X : Type 0} (number : X → ℕ) (x : X) (ys : List X) → Above number (number x) ys → put number x ys ≡ x ∷ ys
put_first number x [] h = refl
put_first number x (y ∷ ys) h = put_before number x y ys h.0

-- rows are put behind one with a lower number
pub puts_past : {X : Type 0} (number : X → ℕ) (xs : List X) (y : X) (ys : List X) → Above number (number y) xs → puts number xs (y ∷ ys) ≡ y ∷ puts number xs ys
puts_past number [] y ys h = refl
puts_past number (x ∷ xs) y ys h = ap (puts number xs) (put_past number x y ys h.0) ∙ puts_past number xs y (put number x ys) h.1

-- putting the rows that a test picks, moved, moves just these
pub puts_moved : {X : Type 0} (number : X → ℕ) (test : X → Bool) (move : X → X) (same : (x : X) → number (move x) ≡ number x) (n : ℕ)
    (rows : List X) →
    Ascends number n rows →
    puts number (map move (filter test rows)) rows ≡ map (λ r. cond (test r) (move r) r) rows
puts_moved number test move same n [] h = refl
puts_moved number test move same n (r ∷ rs) h = grind (
  arith,
  ascends_above,
  puts_past,
  (puts_moved number test move same (number r + 1) rs h.1),
  (ascends_map number number move same (number r + 1) (filter test rs) (ascends_filter number test (number r + 1) rs h.1)),
)

-- putting the touched rows that differ, moved, moves all that are touched
pub puts_differing : {X : Type 0} (number : X → ℕ) (touched : X → Bool) (differs : X → X → Bool) (move : X → X) →
    ((x : X) → number (move x) ≡ number x) →
    ((x : X) → differs x (move x) ≡ false → move x ≡ x) → (n : ℕ) (rows : List X) → Ascends number n rows →
    puts number (moved_rows touched differs move rows) rows ≡ map (λ r. cond (touched r) (move r) r) rows
puts_differing number touched differs move same unmoved n rows h = grind (arith, puts_moved, map-each, each_all)

-- a row above all others comes last
put_last : {X : Type 0} (number : X → ℕ) (x : X) (rows : List X) → Below number (number x) rows → put number x rows ≡ rows ++ x ∷ []
put_last number x [] h = refl
put_last number x (y ∷ ys) h = put_past number x y ys h.0 ∙ ap (λ l. y ∷ l) (put_last number x ys h.1)

-- rows above all others come last
pub puts_last : {X : Type 0} (number : X → ℕ) (n : ℕ) (xs rows : List X) → Ascends number n xs → Below number n rows → puts number xs rows ≡ rows ++ xs
puts_last number n [] rows h below = sym (append-nil rows)
puts_last number n (x ∷ xs) rows h below =
    let first_up : n ≤ number x = h.0 in
    ap (puts number xs) (put_last number x rows (each _ _ rows (λ y (lt : number y < n). omega arith) below))
    ∙ puts_last number (number x + 1) xs (rows ++ x ∷ []) h.1
    (each-append _ rows (x ∷ []) (each _ _ rows (λ y (lt : number y < n). omega arith) below) (omega arith, tt))
    ∙ append_assoc rows (x ∷ []) xs

-- rows that stand by number make the table of themselves
pub puts_ascending : {X : Type 0} (number : X → ℕ) (n : ℕ) (xs : List X) → Ascends number n xs → puts number xs [] ≡ xs
puts_ascending number n xs h = puts_last number n xs [] h tt

-- rows put after rows
pub puts_append : {X : Type 0} (number : X → ℕ) (xs ys rows : List X) → puts number (xs ++ ys) rows ≡ puts number ys (puts number xs rows)
puts_append number [] ys rows = refl
puts_append number (x ∷ xs) ys rows = puts_append number xs ys (put number x rows)

-- ---- removals

-- nothing is removed where the number stands nowhere
pub remove_none : {X : Type 0} (number : X → ℕ) (k : ℕ) (xs : List X) → Above number k xs → remove number k xs ≡ xs
remove_none number k [] h = refl
remove_none number k (x ∷ xs) h = grind (arith, (remove_none number k xs h.1))

-- what is removed further on
removes_past : {X : Type 0} (number : X → ℕ) (ns : List ℕ) (y : X) (ys : List X) → EachOf (λ n. number y < n) ns →
    removes number ns (y ∷ ys) ≡ y ∷ removes number ns ys
removes_past number [] y ys h = refl
removes_past number (n ∷ ns) y ys h =
    ap (λ b. removes number ns (cond (not b) (y ∷ remove number n ys) (remove number n ys))) (more_differs n (number y) h.0)
    ∙ removes_past number ns y (remove number n ys) h.1

-- the numbers of rows above
numbers_above : {X : Type 0} (number : X → ℕ) (n : ℕ) (xs : List X) → Above number n xs → EachOf (λ k. n < k) (map number xs)
numbers_above number n [] h = tt
numbers_above number n (x ∷ xs) h = (h.0, numbers_above number n xs h.1)

-- removing the rows that a test refuses leaves the others
pub removes_filter : {X : Type 0} (number : X → ℕ) (test : X → Bool) (n : ℕ) (rows : List X) → Ascends number n rows →
    removes number (map number (filter (λ r. not (test r)) rows)) rows ≡ filter test rows
removes_filter number test n [] h = refl
removes_filter number test n (r ∷ rs) h =
    by (test r) (removes_filter number test (number r + 1) rs h.1)
    (numbers_above number (number r) _
    (ascends_above number (number r) (number r + 1) (filter (λ x. not (test x)) rs) (omega arith)
    (ascends_filter number (λ x. not (test x)) (number r + 1) rs h.1)))
  where
    by : (b : Bool) → removes number (map number (filter (λ x. not (test x)) rs)) rs ≡ filter test rs →
        EachOf (λ k. number r < k) (map number (filter (λ x. not (test x)) rs)) →
        removes number (map number (cond (not b) (r ∷ filter (λ x. not (test x)) rs) (filter (λ x. not (test x)) rs))) (r ∷ rs)
        ≡ cond b (r ∷ filter test rs) (filter test rs)
    by b g l = grind (arith, removes_past, remove_none, ascends_above)

-- ---- look-ups

-- each row is found by its number, and none is below the first
later_found : {X : Type 0} (number : X → ℕ) (n : ℕ) (xs : List X) → Ascends number n xs →
    EachOf (λ x. (find (λ y. number y == number x) xs ≡ Some x) × (n ≤ number x)) xs
later_found number n [] h = tt
later_found number n (x ∷ xs) h = grind (arith, each, (later_found number (number x + 1) xs h.1))

-- each row is found by its number
pub ascends_found : {X : Type 0} (number : X → ℕ) (n : ℕ) (xs : List X) → Ascends number n xs → EachOf (λ x. find (λ y. number y == number x) xs ≡ Some x) xs
ascends_found number n xs h = each _ _ xs (λ x p. p.0) (later_found number n xs h)

-- none is found by a number above all
pub none_below : {X : Type 0} (number : X → ℕ) (n k : ℕ) (xs : List X) → n ≤ k → Below number n xs → find (λ y. number y == k) xs ≡ None
none_below number n k [] le h = refl
none_below number n k (x ∷ xs) le h =
    let lt : number x < n = h.0 in
    ap (λ b. cond b (Some x) (find (λ y. number y == k) xs)) (less_differs (number x) k (omega arith)) ∙ none_below number n k xs le h.1
