-- What is picked from rows, and from rows by number.
use Rattle.std.specs.{List.cons_option, Prelude.IfSome, Prelude.filter_map}
use Rattle.std.proofs.Common.{◌≡◌, ◌≢◌, inl, inr, ℕ, ◌+◌, ◌<◌, List, [], ◌∷◌, map, Option, Some, None, refl, sym, ap, ◌∙◌, arith}
use Rattle.model_laws.proofs.RowLists.{ascends_above, ascends_from, put_before, put_first, put_past}
use Rattle.model_laws.specs.{Distinct.Distinct, Ordered.Ascends}
use Rattle.desk_model.specs.{Change.put, Kept.EachOf}
use Rattle.sql_tables.specs.Sorted.{sorted_by}
use Rattle.sql_tables.proofs.{Keyed.ranked, Sorting.IsApart, Sorting.each_sorted, Sorting.sorted_rises}

-- what is picked alike from each
pub picked_alike : {X Y : Type 0} (f h : X → Option Y) (xs : List X) → EachOf (λ x. f x ≡ h x) xs → filter_map f xs ≡ filter_map h xs
picked_alike f h [] same = refl
picked_alike f h (x ∷ xs) same = λ i. cons_option (same.0 i) (picked_alike f h xs same.1 i)

-- what is picked from what rows give
pub picked_map : {X Y Z : Type 0} (f : Y → Option Z) (h : X → Y) (xs : List X) → filter_map f (map h xs) ≡ filter_map (λ x. f (h x)) xs
picked_map f h [] = refl
picked_map f h (x ∷ xs) = ap (cons_option (f (h x))) (picked_map f h xs)

module _ {X Y : Type 0} (key : X → ℕ) (number : Y → ℕ) (pick : X → Option Y) (same : (x : X) → IfSome (pick x) (λ y. number y ≡ key x)) where
  -- a row is put, where there is one
  abbrev put_option : Option Y → List Y → List Y
  put_option None ys = ys
  put_option (Some y) ys = put number y ys

  -- what is picked ascends as the rows do
  picked_ascend : (n : ℕ) (xs : List X) → Ascends key n xs → Ascends number n (filter_map pick xs)
  picked_ascend n [] up = tt
  picked_ascend n (x ∷ xs) up = by (pick x) (same x) (picked_ascend (key x + 1) xs up.1)
    where
      by : (o : Option Y) → IfSome o (λ y. number y ≡ key x) → Ascends number (key x + 1) (filter_map pick xs)
          → Ascends number n (cons_option o (filter_map pick xs))
      by None is rest = ascends_from number n (key x + 1) (filter_map pick xs) (omega (arith, up.0)) rest
      by (Some y) is rest = (omega (arith, up.0, is), ascends_from number (number y + 1) (key x + 1) (filter_map pick xs) (omega (arith, is)) rest)

  -- what is picked from rows with one more, of a new number
  picked_put : (n : ℕ) (x : X) (ys : List X) → Ascends key n ys → IsApart key x ys → filter_map pick (put key x ys) ≡ put_option (pick x) (filter_map pick ys)
  picked_put n x [] up apart = last (pick x)
    where
      last : (o : Option Y) → cons_option o [] ≡ put_option o []
      last None = refl
      last (Some y) = refl
  picked_put n x (z ∷ zs) up apart = elim (ranked (key z) (key x)) [
    | inl less ↦
        ap (filter_map pick) (put_past key x z zs less.low)
        ∙ ap (cons_option (pick z)) (picked_put (key z + 1) x zs up.1 apart.1)
        ∙ later (pick z) (pick x) (same z) (same x) less.low
    | inr (inl tied) ↦ absurd (apart.0 (sym tied.same))
    | inr (inr more) ↦
        ap (filter_map pick) (put_before key x z zs more.high)
        ∙ first (pick x) (same x) (picked_ascend (key x + 1) (z ∷ zs) (omega (arith, more.high), up.1))
  ]
    where
      later : (p o : Option Y) → IfSome p (λ y. number y ≡ key z) → IfSome o (λ y. number y ≡ key x) → key z < key x
          → cons_option p (put_option o (filter_map pick zs)) ≡ put_option o (cons_option p (filter_map pick zs))
      later None o is its low = refl
      later (Some y) None is its low = refl
      later (Some y) (Some w) is its low = sym (put_past number w y (filter_map pick zs) (omega (arith, is, its, low)))

      first : (o : Option Y) → IfSome o (λ y. number y ≡ key x) → Ascends number (key x + 1) (filter_map pick (z ∷ zs))
          → cons_option o (filter_map pick (z ∷ zs)) ≡ put_option o (filter_map pick (z ∷ zs))
      first None its above = refl
      first (Some w) its above =
          sym
          (put_first number w (filter_map pick (z ∷ zs)) (ascends_above number (number w) (key x + 1) (filter_map pick (z ∷ zs)) (omega (arith, its)) above))

  -- what is picked from sorted rows is what is picked from all, sorted
  pub picked_sorted : (xs : List X) → Distinct key xs → filter_map pick (sorted_by key xs) ≡ sorted_by number (filter_map pick xs)
  picked_sorted [] apart = refl
  picked_sorted (x ∷ xs) apart =
      picked_put 0 x (sorted_by key xs) (sorted_rises key xs) (each_sorted key (λ y. key x ≢ key y) xs apart.0)
      ∙ ap (put_option (pick x)) (picked_sorted xs apart.1)
      ∙ by (pick x)
    where
      by : (o : Option Y) → put_option o (sorted_by number (filter_map pick xs)) ≡ sorted_by number (cons_option o (filter_map pick xs))
      by None = refl
      by (Some y) = refl
