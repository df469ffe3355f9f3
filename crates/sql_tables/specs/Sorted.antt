-- Rows in the order of their numbers.
use Rattle.std.specs.Prelude.{ℕ, List, [], ◌∷◌}
use Rattle.desk_model.specs.Change.{put}

-- the rows by number, of those with one number the first
abbrev pub sorted_by : {X : Type 0} → (X → ℕ) → List X → List X
sorted_by number [] = []
sorted_by number (x ∷ xs) = put number x (sorted_by number xs)
