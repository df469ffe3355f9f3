-- Rows that were listed so far.
use Rattle.std.proofs.Common.{◌≡◌, ◌++◌, ◌+◌, ◌-◌, ◌^◌, List, [], ◌∷◌, ℕ, ap, append-nil, arith, inl, inr, length, length-append, min, refl}
use Rattle.std.proofs.{KnownBytes.Appends-nil, KnownBytes.Appends-trans, lemmas.List.Concat.flat_map-append}
use Rattle.std.specs.Prelude.{Option}
use Rattle.app_reports.specs.{Filter.AreKept, Listed.Prints, Listed.Turns}
use Rattle.app_reports.proofs.SoFar.{SoFar, more_so, none_so}

-- the count, with one more
counted_more : {X : Type 0} (count next : ℕ) (listed : List X) (row : X) → count ≡ min (length listed) (2 ^ 64 - 1)
    → next ≡ min (count + 1) (2 ^ 64 - 1) → next ≡ min (length (listed ++ row ∷ [])) (2 ^ 64 - 1)
counted_more count next listed row was is = grind (arith, length, length-append)

module _ {X : Type 0} (Keeps : X → Type 0) where
  -- one more row, which is kept
  kept_more : (rows kept : List X) (row : X) → AreKept Keeps rows kept → Keeps row → AreKept Keeps (rows ++ row ∷ []) (kept ++ row ∷ [])
  kept_more [] kept row are is = inl (is, ([], ap (λ k. k ++ row ∷ []) are, refl))
  kept_more (x ∷ rows) kept row (inl are) is =
      inl (are.0, (are.1.0 ++ row ∷ [], ap (λ k. k ++ row ∷ []) are.1.1, kept_more rows (are.1.0) row are.1.2 is))
  kept_more (x ∷ rows) kept row (inr are) is = inr (are.0, kept_more rows kept row are.1 is)

  -- or is not
  passed_more : (rows kept : List X) (row : X) → AreKept Keeps rows kept → (Keeps row → ⊥) → AreKept Keeps (rows ++ row ∷ []) kept
  passed_more [] kept row are not = inr (not, are)
  passed_more (x ∷ rows) kept row (inl are) not = inl (are.0, (are.1.0, are.1.1, passed_more rows (are.1.0) row are.1.2 not))
  passed_more (x ∷ rows) kept row (inr are) not = inr (are.0, passed_more rows kept row are.1 not)

  module _ (line : X → List ℕ) where
    -- the rows before those that are left were looked at
    abbrev pub ListsSoFar : (was is : Option (List ℕ)) → (rows left : List X) → (count : ℕ) → Type 0
    ListsSoFar was is rows left count = SoFar (λ seen. Prints Keeps line was is seen count) rows left

    -- none yet
    pub lists_none : (was : Option (List ℕ)) (rows left : List X) → left ≡ rows → ListsSoFar was was rows left 0
    lists_none was rows left same = grind (arith, none_so, Appends-nil)

    -- one more, which was written, or was not
    prints_turn : (was mid is : Option (List ℕ)) (seen : List X) (row : X) (count next : ℕ) → Prints Keeps line was mid seen count
        → Turns Keeps line mid is row count next → Prints Keeps line was is (seen ++ row ∷ []) next
    prints_turn was mid is seen row count next before turn = grind (arith, kept_more, flat_map-append, Appends-trans, append-nil, counted_more, passed_more)

    -- one more
    pub lists_turn : (was mid is : Option (List ℕ)) (rows left rest : List X) (row : X) (count next : ℕ) → ListsSoFar was mid rows left count
        → left ≡ row ∷ rest → Turns Keeps line mid is row count next → ListsSoFar was is rows rest next
    lists_turn was mid is rows left rest row count next so_far follows turn =
        more_so (λ seen. Prints Keeps line was mid seen count) (λ seen. Prints Keeps line was is seen next) rows left (row ∷ []) rest so_far follows
        (λ seen before. prints_turn was mid is seen row count next before turn)
