-- Rows that are looked up by number among some of the rows.
use Rattle.std.proofs.Common.{◌≡◌, ℕ, ◌+◌, ◌≤◌, ◌<◌, Bool, List, [], ◌∷◌, filter, None, refl, arith}
use Rattle.std.specs.Prelude.{◌==◌, find}
use Rattle.model_laws.specs.Ordered.{Ascends}
use Rattle.core_rules.specs.Lists.{only}

-- no later row has this number
none_later : {X : Type 0} (number : X → ℕ) (p : X → Bool) (n k : ℕ) (xs : List X) → Ascends number n xs → k < n → find (λ y. number y == k) (filter p xs) ≡ None
none_later number p n k [] h lt = refl
none_later {X} number p n k (x ∷ xs) h lt = grind (arith, (none_later number p (number x + 1) k xs h.1 (let le : n ≤ number x = h.0 in omega arith)))

-- a row by its number among those that pass
pub find-only : {X : Type 0} (number : X → ℕ) (p : X → Bool) (n k : ℕ) (xs : List X) → Ascends number n xs →
    find (λ y. number y == k) (filter p xs) ≡ only p (find (λ y. number y == k) xs)
find-only number p n k [] h = refl
find-only {X} number p n k (x ∷ xs) h = grind (arith, none_later, (find-only number p (number x + 1) k xs h.1))
