-- What a reader of columns answers.
use Rattle.std.specs.Prelude.{◌≡◌, ◌≢◌, ◌≤◌, ℕ, Option, None, Some, ⊤}

-- the row, in its limits, that the columns write; or none, where no such row does
abbrev pub IsRead : {C R : Type 0} → (write : R → C) → (IsStored : R → Type 0) → C → Option R → Type 0
IsRead {C} {R} write IsStored columns None = (row : R) → IsStored row → columns ≢ write row
IsRead write IsStored columns (Some row) = IsStored row × (columns ≡ write row)

-- no limit
abbrev pub Unlimited : {R : Type 0} → R → Type 0
Unlimited row = ⊤

-- a number up to a limit
abbrev pub IsAtMost : (limit n : ℕ) → Type 0
IsAtMost limit n = n ≤ limit

-- a number from a least one
abbrev pub IsFrom : (least n : ℕ) → Type 0
IsFrom least n = least ≤ n
