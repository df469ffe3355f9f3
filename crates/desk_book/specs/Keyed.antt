-- Rows that stand under their own numbers.
use Rattle.std.specs.Prelude.{◌≡◌, ℕ, List, [], ◌∷◌}

-- each key is the number of its row
abbrev pub IsKeyed : {X : Type 0} → (X → ℕ) → List (ℕ × X) → Type 0
IsKeyed number [] = Unit {0}
IsKeyed number (e ∷ es) = (e.0 ≡ number e.1) × IsKeyed number es
