-- Rows that were counted so far.
use Rattle.std.proofs.Common.{◌≡◌, ◌∙◌, ◌++◌, ◌+◌, ◌-◌, ◌^◌, List, [], ◌∷◌, ℕ, ap, append-nil, arith, cond, filter, length, length-append}
use Rattle.std.proofs.Common.{min, refl, replicate, zero, suc, sym}
use Rattle.std.proofs.lemmas.List.Elements.{filter-append}
use Rattle.std.specs.Prelude.{◌==◌, slice_index}
use Rattle.app_reports.proofs.SoFar.{SoFar, more_so, none_so}
use Rattle.app_reports.specs.Tallied.{IsTally, tally_of}

-- of numbers that are all 0 each is
pub zeros : (n k : ℕ) → slice_index (replicate n 0) k ≡ 0
zeros zero k = refl
zeros (suc n) zero = refl
zeros (suc n) (suc k) = zeros n k

module _ {X : Type 0} (place : X → ℕ) where
  -- how many there are of a place, with one more
  more_of : (k : ℕ) (rows : List X) (row : X) →
      tally_of place (rows ++ row ∷ []) k ≡ cond (place row == k) (min (tally_of place rows k + 1) (2 ^ 64 - 1)) (tally_of place rows k)
  more_of k rows row = grind (arith, min, length, filter-append, filter, cond, length-append, append-nil)

  -- the rows before those that are left were counted
  abbrev pub CountsSoFar : (rows left : List X) → List ℕ → Type 0
  CountsSoFar rows left counts = SoFar (λ seen. IsTally place seen counts) rows left

  -- all are left
  pub counts_none : (rows left : List X) (counts : List ℕ) → left ≡ rows → ((k : ℕ) → slice_index counts k ≡ 0) → CountsSoFar rows left counts
  counts_none rows left counts same zeros = none_so (λ seen. IsTally place seen counts) rows left same zeros

  -- one more
  pub counts_more : (rows left rest : List X) (row : X) (counts next : List ℕ) → CountsSoFar rows left counts → left ≡ row ∷ rest
      → ((k : ℕ) → slice_index next k ≡ cond (place row == k) (min (slice_index counts k + 1) (2 ^ 64 - 1)) (slice_index counts k))
      → CountsSoFar rows rest next
  counts_more rows left rest row counts next so_far follows raised =
      more_so (λ seen. IsTally place seen counts) (λ seen. IsTally place seen next) rows left (row ∷ []) rest so_far follows
      (λ seen tally k. raised k ∙ ap (λ n. cond (place row == k) (min (n + 1) (2 ^ 64 - 1)) n) (tally k) ∙ sym (more_of k seen row))
