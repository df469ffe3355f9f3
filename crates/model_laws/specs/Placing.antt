-- Rows put into their places by number, and removed, one after the other.
use Rattle.std.specs.Prelude.{ℕ, List, [], ◌∷◌}
use Rattle.desk_model.specs.Change.{put, remove}

-- the rows put one after the other
abbrev pub puts : {X : Type 0} → (X → ℕ) → List X → List X → List X
puts number [] rows = rows
puts number (x ∷ xs) rows = puts number xs (put number x rows)

-- rows removed one after the other
abbrev pub removes : {X : Type 0} → (X → ℕ) → List ℕ → List X → List X
removes number [] rows = rows
removes number (n ∷ ns) rows = removes number ns (remove number n rows)
