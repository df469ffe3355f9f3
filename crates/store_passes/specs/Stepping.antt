-- One step of a pass.
use Rattle.std.specs.Prelude.{◌≡◌, ℕ, List, [], ◌∷◌, ◌++◌, Option, Some, None}
use Rattle.desk_model.specs.declared.rows.StatusFault.{StatusFault}
use Rattle.model_parts.specs.Above.{first_of}
use Rattle.store_book.specs.RowFaults.{listed_fault}
use Rattle.store_passes.specs.declared.checked.Checked.{Checked}

-- this is the first of the rows, or there are none
abbrev pub IsFirst : {X : Type 0} → Option X → List X → Type 0
IsFirst None rows = first_of rows ≡ []
IsFirst (Some x) rows = first_of rows ≡ x ∷ []

-- what is left above a number is the fault that was found and what is left above the row that was checked; or nothing is left
abbrev pub Steps : Option Checked → (ℕ → List StatusFault) → ℕ → Type 0
Steps None left n = left n ≡ []
Steps (Some c) left n = left n ≡ listed_fault c.fault ++ left c.number
