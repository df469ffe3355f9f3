-- Rows under a hidden row number, which the engine chooses and keeps.
use Rattle.std.specs.Prelude.{◌≡◌, ◌⊎◌, ℕ, ◌+◌, pos, List, ◌∷◌, fold, Bool, true, false}
use Rattle.sqlite.specs.{declared.types.Value.TheVariants.Int, Order.Row}
use Rattle.sqlite_rules.specs.Lists.{Has}
use Rattle.desk_model.specs.Change.{put}

-- the hidden number
abbrev pub number : {X : Type 0} → ℕ × X → ℕ
number t = t.0

-- the row under its number
abbrev pub row_of : {X : Type 0} → ℕ × X → X
row_of t = t.1

-- the number, then the columns
abbrev pub hidden : {X : Type 0} → (X → Row) → ℕ × X → Row
hidden cells t = Int (pos t.0) ∷ cells t.1

-- the number that the next row gets: one above the last
abbrev pub next : {X : Type 0} → List (ℕ × X) → ℕ
next = fold (λ _ t. t.0 + 1) 1

-- a row that is the same gives its number to the new one, which else gets the next number
abbrev pub IsPlaced : {X : Type 0} → (X → X → Bool) → X → List (ℕ × X) → List (ℕ × X) → Type 0
IsPlaced {X} same x before after =
    ((t : ℕ × X) × Has before t × (same x t.1 ≡ true) × (after ≡ put number (t.0, x) before))
    ⊎ (((t : ℕ × X) → Has before t → same x t.1 ≡ false) × (after ≡ put number (next before, x) before))
