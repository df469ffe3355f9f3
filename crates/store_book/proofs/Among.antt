-- Numbers among others.
use Rattle.std.proofs.Common.{◌≡◌, ◌<◌, ◌≤◌, ◌+◌, ◌⊎◌, inl, inr, ℕ, zero, suc, Bool, true, false, List, [], ◌∷◌, length, Ordering, nat_cmp, cond, Some, Result}
use Rattle.std.proofs.Common.{Ok, Err, arith, refl, rules}
use Rattle.std.proofs.{lemmas.Bool.eq-eqb, lemmas.Bool.eqb-true, lemmas.List.Sorted.searched, lemmas.Bool.Decides.nat_tests}
use Rattle.std.specs.{Prelude.◌==◌, Prelude.find, Prelude.get_or, Prelude.HoldsAt, Prelude.IsSome, Prelude.is_ok, List.Sorted.IsBinarySearchResult}
use Rattle.model_laws.specs.Ordered.{Ascends}
use Rattle.store_book.specs.BookRows.{IsAmong, Rise}

-- numbers that tie are equal
even_numbers : (m n : ℕ) → nat_cmp m n ≡ Ordering.Equal → m ≡ n
even_numbers m n h = grind (arith, nat_tests)

-- what ties with a number at some place is it
pub among_at : (n : ℕ) (xs : List ℕ) (i : ℕ) → HoldsAt (λ y. nat_cmp y n ≡ Ordering.Equal) xs i → IsAmong xs n
among_at n [] i h = absurd (let past = even_numbers (suc n) n (h (suc n)) in omega (arith, past))
among_at n (x ∷ xs) zero h = grind (arith, (eq-eqb x n (even_numbers x n (h 0))))
among_at n (x ∷ xs) (suc i) h = grind (arith, (among_at n xs i h))

-- ---- numbers that rise

-- none is below the first
none_below : (m : ℕ) (xs : List ℕ) → Ascends (λ n. n) m xs → (j : ℕ) → j < length xs → m ≤ get_or xs j 0
none_below m [] up j within = absurd (omega (arith, within))
none_below m (x ∷ xs) up zero within = up.0
none_below m (x ∷ xs) up (suc j) within = grind (arith, (none_below (x + 1) xs up.1 j (omega (arith, within))))

-- none is below an earlier one
none_falls : (m : ℕ) (xs : List ℕ) → Ascends (λ n. n) m xs → (i j : ℕ) → i ≤ j → j < length xs → get_or xs i 0 ≤ get_or xs j 0
none_falls m [] up i j le within = absurd (omega (arith, within))
none_falls m (x ∷ xs) up zero zero le within = omega arith
none_falls m (x ∷ xs) up zero (suc j) le within = let later = none_below (x + 1) xs up.1 j (omega (arith, within)) in omega (arith, later)
none_falls m (x ∷ xs) up (suc i) zero le within = absurd (omega (arith, le))
none_falls m (x ∷ xs) up (suc i) (suc j) le within = none_falls (x + 1) xs up.1 i j (omega (arith, le)) (omega (arith, within))

-- a number among others stands at a place
pub record HasPlace (xs : List ℕ) (n : ℕ) : Type 0 where
  pub place : ℕ
  pub within : place < length xs
  pub is : get_or xs place 0 ≡ n

-- a number among others has a place among them
has_place : (xs : List ℕ) (n : ℕ) → IsAmong xs n → HasPlace xs n
has_place [] n among = absurd (cc among)
has_place (x ∷ xs) n among = by (x == n) refl (has_place xs n) among
  where
    by : (b : Bool) → (x == n) ≡ b → (IsAmong xs n → HasPlace xs n) → IsSome (cond b (Some x) (find (λ m. m == n) xs)) → HasPlace (x ∷ xs) n
    by true e rest h = record { place = 0; within = omega arith; is = eqb-true x n e }
    by false e rest h = let later = rest h in let within = later.within in record { place = suc later.place; within = omega (arith, within); is = later.is }

-- one of two numbers is below, or the other is not above
sides : (a b : ℕ) → (a < b) ⊎ (b ≤ a)
sides a b = search rules

-- a search finds it where they rise
pub search_finds : (xs : List ℕ) (n : ℕ) (r : Result ℕ ℕ) → IsBinarySearchResult (λ y. nat_cmp y n) xs r → Rise xs → IsAmong xs n → is_ok r ≡ true
search_finds xs n (Ok i) found up among = refl
search_finds xs n (Err i) found up among =
    let it = has_place xs n among in
    let apart = searched xs n (Err i) found (none_falls 1 xs up) in
    let is = it.is in
    elim (sides it.place i) [
      | inl less ↦ let below = apart.1 it.place less in absurd (omega (arith, below, is))
      | inr more ↦ let above = apart.2 it.place more it.within in absurd (omega (arith, above, is))
    ]
