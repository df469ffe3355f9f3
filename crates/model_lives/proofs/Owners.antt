-- A challenge stands in one authorization.
use Rattle.std.proofs.Common.{◌≡◌, ◌≤◌, ◌+◌, ℕ, List, [], ◌∷◌, ◌++◌, Some, refl, Bool, true, arith}
use Rattle.std.specs.{Prelude.find, Prelude.◌==◌, Prelude.◌||◌, List.flat_map, List.list_any}
use Rattle.desk_model.specs.{Effect.has_row, declared.rows.AuthorizationRow.AuthorizationRow, declared.rows.ChallengeRow.ChallengeRow}
use Rattle.model_laws.specs.Ordered.{Ascends}
use Rattle.model_laws.proofs.RowLists.{ascends_from}

-- one of the challenges has this number
abbrev pub has_number : ℕ → List ChallengeRow → Bool
has_number k cs = list_any (λ c. k == c.number) cs

-- all challenges of these authorizations
abbrev pub all_challenges : List AuthorizationRow → List ChallengeRow
all_challenges rows = flat_map (λ (a : AuthorizationRow). a.challenges) rows

-- what comes last ascends from the same number on
ascends_last : (n : ℕ) (cs ds : List ChallengeRow) → Ascends (λ c. c.number) n (cs ++ ds) → Ascends (λ c. c.number) n ds
ascends_last n [] ds h = h
ascends_last n (c ∷ cs) ds h = grind (arith, ascends_from, (ascends_last (c.number + 1) cs ds h.1))

-- no number below the first stands among them
has_above : (k n : ℕ) (cs : List ChallengeRow) → Ascends (λ c. c.number) n cs → has_number k cs ≡ true → n ≤ k
has_above k n [] h is = cc
has_above k n (c ∷ cs) h is = grind (arith, (has_above k (c.number + 1) cs h.1))

-- what stands first stands nowhere further on
has_once : (k n : ℕ) (cs ds : List ChallengeRow) → Ascends (λ c. c.number) n (cs ++ ds) → has_number k cs ≡ true → has_number k ds ≡ true → ⊥
has_once k n [] ds h first later = cc
has_once k n (c ∷ cs) ds h first later = by (k == c.number) refl first (λ i. has_once k (c.number + 1) cs ds h.1 i later)
  where
    by : (b : Bool) → (k == c.number) ≡ b → (b || has_number k cs) ≡ true → (has_number k cs ≡ true → ⊥) → ⊥
    by b e l g = grind (arith, has_above, ascends_last)

-- what stands last stands there
has-append : (k : ℕ) (cs ds : List ChallengeRow) → has_number k ds ≡ true → has_number k (cs ++ ds) ≡ true
has-append k [] ds h = h
has-append k (c ∷ cs) ds h = grind (arith, (has-append k cs ds h))

-- and what stands first
has-front : (k : ℕ) (cs ds : List ChallengeRow) → has_number k cs ≡ true → has_number k (cs ++ ds) ≡ true
has-front k [] ds h = cc
has-front k (c ∷ cs) ds h = grind (arith, (has-front k cs ds))

-- the challenges of an authorization that is found are among all
has_found : (p : AuthorizationRow → Bool) (k : ℕ) (rows : List AuthorizationRow) (row : AuthorizationRow) → find p rows ≡ Some row → has_row k row ≡ true →
    has_number k (all_challenges rows) ≡ true
has_found p k [] row found has = cc
has_found p k (x ∷ xs) row found has = grind (arith, has-front, has-append, (has_found p k xs row))

-- the authorization of a challenge is the only one
pub owner_found : (p : AuthorizationRow → Bool) (k n : ℕ) (rows : List AuthorizationRow) (row : AuthorizationRow) →
    Ascends (λ c. c.number) n (all_challenges rows) → find p rows ≡ Some row → has_row k row ≡ true →
    find (has_row k) rows ≡ Some row
owner_found p k n [] row h found has = cc
owner_found p k n (x ∷ xs) row h found has = grind (arith, has_once, has_found, (owner_found p k n xs row (ascends_last n x.challenges (all_challenges xs) h)))
