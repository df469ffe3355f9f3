-- Rows put one after the other, and rows sorted by number.
use Rattle.std.proofs.Common.{◌≡◌, ◌≢◌, inl, inr, ℕ, ◌+◌, ◌<◌, ◌++◌, List, [], ◌∷◌, filter, Bool, true, false, cond, refl, sym, ap, subst, ◌∙◌, arith}
use Rattle.std.proofs.lemmas.Bool.{eqb-true, ne_eqb}
use Rattle.std.proofs.lemmas.List.Sorted.{IsPermutation-cons, IsPermutation-refl, IsPermutation-swap, IsPermutation-trans}
use Rattle.std.specs.{Prelude.◌==◌, List.Sorted.IsPermutation}
use Rattle.model_laws.proofs.Basics.{each}
use Rattle.model_laws.proofs.RowLists.{ascends_above, ascends_filter, put_before, put_first, put_instead, put_past}
use Rattle.model_laws.specs.{Distinct.Distinct, Ordered.Ascends, Placing.puts}
use Rattle.desk_model.specs.{Change.put, Kept.EachOf}
use Rattle.sql_tables.specs.{Layouts.IsRising, Sorted.sorted_by}
use Rattle.sql_tables.proofs.Keyed.{put_ascends, ranked}

module _ {X : Type 0} (key : X → ℕ) where
  -- the row has another number than each of these
  abbrev pub IsApart : X → List X → Type 0
  IsApart x ys = EachOf (λ y. key x ≢ key y) ys

  -- the rows put, the last of them first
  abbrev pub put_each : List X → List X → List X
  put_each [] zs = zs
  put_each (x ∷ xs) zs = put key x (put_each xs zs)

  -- ---- two rows

  -- a row and a higher one are put in any order
  turn_up : (x y : X) → key x < key y → (zs : List X) → put key x (put key y zs) ≡ put key y (put key x zs)
  turn_up x y up [] = put_before key x y [] up ∙ sym (put_past key y x [] up)
  turn_up x y up (z ∷ zs) = elim (ranked (key z) (key x)) [
    | inl less ↦
        ap (put key x) (put_past key y z zs (omega (arith, up, less.low)))
        ∙ put_past key x z (put key y zs) less.low
        ∙ ap (λ l. z ∷ l) (turn_up x y up zs)
        ∙ sym (put_past key y z (put key x zs) (omega (arith, up, less.low)))
        ∙ sym (ap (put key y) (put_past key x z zs less.low))
    | inr (inl tied) ↦
        ap (put key x) (put_past key y z zs (omega (arith, up, tied.same)))
        ∙ put_instead key x z (put key y zs) tied.same
        ∙ sym (put_past key y x zs up)
        ∙ sym (ap (put key y) (put_instead key x z zs tied.same))
    | inr (inr more) ↦
        first more.high
        ∙ sym (put_past key y x (z ∷ zs) up)
        ∙ sym (ap (put key y) (put_before key x z zs more.high))
  ]
    where
      first : key x < key z → put key x (put key y (z ∷ zs)) ≡ x ∷ put key y (z ∷ zs)
      first low = elim (ranked (key z) (key y)) [
        | inl less ↦
            ap (put key x) (put_past key y z zs less.low)
            ∙ put_before key x z (put key y zs) low
            ∙ sym (ap (λ l. x ∷ l) (put_past key y z zs less.low))
        | inr (inl tied) ↦
            ap (put key x) (put_instead key y z zs tied.same)
            ∙ put_before key x y zs up
            ∙ sym (ap (λ l. x ∷ l) (put_instead key y z zs tied.same))
        | inr (inr more) ↦
            ap (put key x) (put_before key y z zs more.high)
            ∙ put_before key x y (z ∷ zs) up
            ∙ sym (ap (λ l. x ∷ l) (put_before key y z zs more.high))
      ]

  -- and so are any two of different numbers
  put_turn : (x y : X) → key x ≢ key y → (zs : List X) → put key x (put key y zs) ≡ put key y (put key x zs)
  put_turn x y apart zs = elim (ranked (key x) (key y)) [
    | inl less ↦ turn_up x y less.low zs
    | inr (inl tied) ↦ absurd (apart tied.same)
    | inr (inr more) ↦ sym (turn_up y x more.high zs)
  ]

  -- of two rows of one number the last one stays
  pub put_over : (x y : X) → key y ≡ key x → (zs : List X) → put key x (put key y zs) ≡ put key x zs
  put_over x y same [] = put_instead key x y [] same
  put_over x y same (z ∷ zs) = elim (ranked (key z) (key y)) [
    | inl less ↦
        ap (put key x) (put_past key y z zs less.low)
        ∙ put_past key x z (put key y zs) (omega (arith, less.low, same))
        ∙ ap (λ l. z ∷ l) (put_over x y same zs)
        ∙ sym (put_past key x z zs (omega (arith, less.low, same)))
    | inr (inl tied) ↦
        ap (put key x) (put_instead key y z zs tied.same)
        ∙ put_instead key x y zs same
        ∙ sym (put_instead key x z zs (tied.same ∙ same))
    | inr (inr more) ↦
        ap (put key x) (put_before key y z zs more.high)
        ∙ put_instead key x y (z ∷ zs) same
        ∙ sym (put_before key x z zs (omega (arith, more.high, same)))
  ]

  -- ---- several rows

  -- a row is put before several others as well as behind them
  pub put_each_turn : (x : X) (ys zs : List X) → IsApart x ys → put key x (put_each ys zs) ≡ put_each ys (put key x zs)
  put_each_turn x [] zs apart = refl
  put_each_turn x (y ∷ ys) zs apart = put_turn x y apart.0 (put_each ys zs) ∙ ap (put key y) (put_each_turn x ys zs apart.1)

  -- and so are several
  pub put_each_both : (xs ys zs : List X) → EachOf (λ x. IsApart x ys) xs → put_each xs (put_each ys zs) ≡ put_each ys (put_each xs zs)
  put_each_both [] ys zs apart = refl
  put_each_both (x ∷ xs) ys zs apart = ap (put key x) (put_each_both xs ys zs apart.1) ∙ put_each_turn x ys (put_each xs zs) apart.0

  -- rows of different numbers are put from the last to the first, too
  pub puts_each : (xs zs : List X) → Distinct key xs → puts key xs zs ≡ put_each xs zs
  puts_each [] zs apart = refl
  puts_each (x ∷ xs) zs apart = puts_each xs (put key x zs) apart.1 ∙ sym (put_each_turn x xs zs apart.0)

  -- one of several rows of different numbers takes the place of a row of its number
  pub put_each_over : (y x : X) (post zs : List X) → key y ≡ key x → Distinct key (x ∷ post)
      → put_each (x ∷ post) (put key y zs) ≡ put_each (x ∷ post) zs
  put_each_over y x post zs same apart =
      let others : IsApart y post = each _ _ post (λ z differs tied. differs (sym same ∙ tied)) apart.0 in
      ap (put key x) (sym (put_each_turn y post zs others)) ∙ put_over x y same (put_each post zs)

  -- ---- rows by number

  -- sorted rows rise
  pub sorted_rises : (xs : List X) → IsRising key (sorted_by key xs)
  sorted_rises [] = tt
  sorted_rises (x ∷ xs) = put_ascends key 0 x (sorted_by key xs) (omega arith) (sorted_rises xs)

  -- two lists, sorted
  pub sorted_append : (xs ys : List X) → sorted_by key (xs ++ ys) ≡ put_each xs (sorted_by key ys)
  sorted_append [] ys = refl
  sorted_append (x ∷ xs) ys = ap (put key x) (sorted_append xs ys)

  -- rows that ascend stand as they are
  pub sorted_ascending : (n : ℕ) (xs : List X) → Ascends key n xs → sorted_by key xs ≡ xs
  sorted_ascending n [] up = refl
  sorted_ascending n (x ∷ xs) up =
      ap (put key x) (sorted_ascending (key x + 1) xs up.1) ∙ put_first key x xs (ascends_above key (key x) (key x + 1) xs (omega arith) up.1)

  -- what holds of a row and of each other holds of each with it
  pub each_put : (P : X → Type 0) (x : X) (ys : List X) → P x → EachOf P ys → EachOf P (put key x ys)
  each_put P x [] h all = (h, tt)
  each_put P x (y ∷ ys) h all = elim (ranked (key y) (key x)) [
    | inl less ↦ rw (put_past key x y ys less.low) (all.0, each_put P x ys h all.1)
    | inr (inl tied) ↦ rw (put_instead key x y ys tied.same) (h, all.1)
    | inr (inr more) ↦ rw (put_before key x y ys more.high) (h, all)
  ]

  -- what holds of each row holds of each sorted
  pub each_sorted : (P : X → Type 0) (xs : List X) → EachOf P xs → EachOf P (sorted_by key xs)
  each_sorted P [] all = tt
  each_sorted P (x ∷ xs) all = each_put P x (sorted_by key xs) all.0 (each_sorted P xs all.1)

  -- a row of a new number is one more
  put_moves : (x : X) (ys : List X) → IsApart x ys → IsPermutation (put key x ys) (x ∷ ys)
  put_moves x [] apart = IsPermutation-refl (x ∷ [])
  put_moves x (y ∷ ys) apart = elim (ranked (key y) (key x)) [
    | inl less ↦
        rw (put_past key x y ys less.low)
        (IsPermutation-trans (y ∷ put key x ys) (y ∷ x ∷ ys) (x ∷ y ∷ ys) (IsPermutation-cons y (put key x ys) (x ∷ ys) (put_moves x ys apart.1))
        (IsPermutation-swap (y ∷ x ∷ ys) (x ∷ y ∷ ys) 0 1 (omega arith) (omega arith) refl))
    | inr (inl tied) ↦ absurd (apart.0 (sym tied.same))
    | inr (inr more) ↦ rw (put_before key x y ys more.high) (IsPermutation-refl (x ∷ y ∷ ys))
  ]

  -- rows of different numbers, sorted, are the same rows
  pub sorted_moves : (xs : List X) → Distinct key xs → IsPermutation (sorted_by key xs) xs
  sorted_moves [] apart = IsPermutation-refl []
  sorted_moves (x ∷ xs) apart =
      IsPermutation-trans (sorted_by key (x ∷ xs)) (x ∷ sorted_by key xs) (x ∷ xs)
      (put_moves x (sorted_by key xs) (each_sorted (λ y. key x ≢ key y) xs apart.0))
      (IsPermutation-cons x (sorted_by key xs) xs (sorted_moves xs apart.1))

  -- ---- rows that pass a test

  -- a row of a new number is put among those that pass where it passes
  filter_put : (p : X → Bool) (n : ℕ) (x : X) (ys : List X) → Ascends key n ys → IsApart x ys
      → filter p (put key x ys) ≡ cond (p x) (put key x (filter p ys)) (filter p ys)
  filter_put p n x [] up apart = refl
  filter_put p n x (y ∷ ys) up apart = elim (ranked (key y) (key x)) [
    | inl less ↦
        ap (filter p) (put_past key x y ys less.low)
        ∙ later (p y) (p x) (put_past key x y (filter p ys) less.low) (filter_put p (key y + 1) x ys up.1 apart.1)
    | inr (inl tied) ↦ absurd (apart.0 (sym tied.same))
    | inr (inr more) ↦
        ap (filter p) (put_before key x y ys more.high)
        ∙ ap (λ l. cond (p x) l (filter p (y ∷ ys))) (sym (put_first key x (filter p (y ∷ ys))
        (ascends_above key (key x) (key x + 1) (filter p (y ∷ ys)) (omega arith)
        (ascends_filter key p (key x + 1) (y ∷ ys) (omega (arith, more.high), up.1)))))
  ]
    where
      later : (b c : Bool) → put key x (y ∷ filter p ys) ≡ y ∷ put key x (filter p ys)
          → filter p (put key x ys) ≡ cond c (put key x (filter p ys)) (filter p ys)
          → cond b (y ∷ filter p (put key x ys)) (filter p (put key x ys))
          ≡ cond c (put key x (cond b (y ∷ filter p ys) (filter p ys))) (cond b (y ∷ filter p ys) (filter p ys))
      later true true past ih = ap (λ l. y ∷ l) ih ∙ sym past
      later true false past ih = ap (λ l. y ∷ l) ih
      later false true past ih = ih
      later false false past ih = ih

  -- those that pass of the sorted rows are sorted
  pub filter_sorted : (p : X → Bool) (xs : List X) → Distinct key xs → filter p (sorted_by key xs) ≡ sorted_by key (filter p xs)
  filter_sorted p [] apart = refl
  filter_sorted p (x ∷ xs) apart =
      filter_put p 0 x (sorted_by key xs) (sorted_rises xs) (each_sorted (λ y. key x ≢ key y) xs apart.0)
      ∙ ap (λ l. cond (p x) (put key x l) l) (filter_sorted p xs apart.1)
      ∙ by (p x)
    where
      by : (b : Bool) → cond b (put key x (sorted_by key (filter p xs))) (sorted_by key (filter p xs)) ≡ sorted_by key (cond b (x ∷ filter p xs) (filter p xs))
      by true = refl
      by false = refl

  -- and stand as they did where they ascend
  pub filter_ascending : (p : X → Bool) (n : ℕ) (xs : List X) → Distinct key xs → Ascends key n (filter p xs) → filter p (sorted_by key xs) ≡ filter p xs
  filter_ascending p n xs apart up = filter_sorted p xs apart ∙ sorted_ascending n (filter p xs) up

  -- no row has a number that all others have not
  none_with : (n : ℕ) (xs : List X) → EachOf (λ x. n ≢ key x) xs → filter (λ x. key x == n) xs ≡ []
  none_with n [] apart = refl
  none_with n (x ∷ xs) apart =
      ap (λ b. cond b (x ∷ filter (λ y. key y == n) xs) (filter (λ y. key y == n) xs)) (ne_eqb (key x) n (λ same. apart.0 (sym same)))
      ∙ none_with n xs apart.1

  -- of rows that differ in number one at most has this one
  one_ascends : (n : ℕ) (xs : List X) → Distinct key xs → Ascends key 0 (filter (λ x. key x == n) xs)
  one_ascends n [] apart = tt
  one_ascends n (x ∷ xs) apart = by (key x == n) refl (one_ascends n xs apart.1)
    where
      by : (b : Bool) → (key x == n) ≡ b → Ascends key 0 (filter (λ y. key y == n) xs)
          → Ascends key 0 (cond b (x ∷ filter (λ y. key y == n) xs) (filter (λ y. key y == n) xs))
      by true is rest =
          let same : key x ≡ n = eqb-true (key x) n is in
          let none = none_with n xs (each _ _ xs (λ y differs tied. differs (same ∙ tied)) apart.0) in
          (omega arith, subst (Ascends key (key x + 1)) (sym none) tt)
      by false is rest = rest

  -- so it is found among the sorted ones as among all
  pub filter_number : (n : ℕ) (xs : List X) → Distinct key xs → filter (λ x. key x == n) (sorted_by key xs) ≡ filter (λ x. key x == n) xs
  filter_number n xs apart = filter_ascending (λ x. key x == n) 0 xs apart (one_ascends n xs apart)
