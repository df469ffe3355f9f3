-- What is true of the names that texts stand for.
use Rattle.std.specs.Prelude.{◌≡◌, ◌↔◌, List, ℕ, Bool, Some}
use Rattle.desk_model.specs.Names.{IsNameOf, name_of}

-- a text stands for one name at most
abbrev pub StandsForOneName : Type 0
StandsForOneName = (text b c : List ℕ) (v w : Bool) → IsNameOf text b v → IsNameOf text c w → (b ≡ c) × (v ≡ w)

-- the function finds the name that a text stands for
abbrev pub FindsTheName : Type 0
FindsTheName = (text b : List ℕ) (w : Bool) → IsNameOf text b w ↔ (name_of text ≡ Some (record { base = b; wildcard = w }))
