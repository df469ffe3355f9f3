-- A row in the place of one of the same number and the same owner.
use Rattle.std.specs.Prelude.{◌≡◌, ◌+◌, ◌<◌, ◌≤◌, ℕ, List, [], ◌∷◌, ◌++◌, map}
use Rattle.std.proofs.Common.{sym, ap, subst, ◌∙◌}
use Rattle.desk_model.specs.Kept.{EachOf}
use Rattle.model_laws.specs.Ordered.{Ascends, Below, IsTable}
use Rattle.store_book.specs.{BookRows.IsAmong, Passing.AreOwned, declared.counter.Counter.Counter}

module _ {X : Type 0} (row other : X) where
  -- what holds of each
  pub each_alike : (P : X → Type 0) (rows rest : List X) → (P row → P other) → EachOf P (rows ++ row ∷ rest) → EachOf P (rows ++ other ∷ rest)
  each_alike P [] rest one each = (one each.0, each.1)
  each_alike P (x ∷ rows) rest one each = (each.0, each_alike P rows rest one each.1)

  -- their numbers
  map_alike : (number : X → ℕ) (rows rest : List X) → number row ≡ number other → map number (rows ++ row ∷ rest) ≡ map number (rows ++ other ∷ rest)
  map_alike number [] rest same = ap (λ n. n ∷ map number rest) same
  map_alike number (x ∷ rows) rest same = ap (λ ns. number x ∷ ns) (map_alike number rows rest same)

  ascends_alike : (number : X → ℕ) (n : ℕ) (rows rest : List X) → number row ≡ number other → Ascends number n (rows ++ row ∷ rest)
      → Ascends number n (rows ++ other ∷ rest)
  ascends_alike number n [] rest same up = (subst (λ m. n ≤ m) same up.0, subst (λ m. Ascends number (m + 1) rest) same up.1)
  ascends_alike number n (x ∷ rows) rest same up = (up.0, ascends_alike number (number x + 1) rows rest same up.1)

  -- a table
  pub table_alike : (number : X → ℕ) (last : ℕ) (rows rest : List X) → number row ≡ number other → IsTable number last (rows ++ row ∷ rest)
      → IsTable number last (rows ++ other ∷ rest)
  table_alike number last rows rest same table =
      (ascends_alike number 1 rows rest same table.0, each_alike (λ x. number x < last + 1) rows rest (subst (λ n. n < last + 1) same) table.1)

  -- the rows so far
  pub owned_alike : (number owner : X → ℕ) (first now : Counter) (owners first_owners numbers : List ℕ) (rows : List X) → number row ≡ number other
      → owner row ≡ owner other → AreOwned number owner first now owners first_owners numbers (rows ++ row ∷ [])
      → AreOwned number owner first now owners first_owners numbers (rows ++ other ∷ [])
  owned_alike number owner first now owners first_owners numbers rows same belongs owned = (
    record {
      last = owned.0.last;
      top = owned.0.top;
      ascends = ascends_alike number 1 rows [] same owned.0.ascends;
      below = each_alike (λ x. number x < now.top + 1) rows [] (subst (λ n. n < now.top + 1) same) owned.0.below;
      reached = λ n some low. owned.0.reached n some (back n low);
    },
    owned.1 ∙ map_alike number rows [] same,
    owned.2,
    each_alike (λ x. IsAmong first_owners (owner x)) rows [] (subst (IsAmong first_owners) belongs) owned.3,
  )
    where
      back : (n : ℕ) → Below number n (rows ++ other ∷ []) → Below number n (rows ++ row ∷ [])
      back n low = below_back n rows low
        where
          below_back : (n : ℕ) (rows : List X) → Below number n (rows ++ other ∷ []) → Below number n (rows ++ row ∷ [])
          below_back n [] low = (subst (λ m. m < n) (sym same) low.0, low.1)
          below_back n (x ∷ rows) low = (low.0, below_back n rows low.1)
