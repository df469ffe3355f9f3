-- JSON documents: objects whose members are given in the order of their names, and lists.
use Rattle.std.specs.Prelude.{ℕ, List, [], ◌∷◌, Bool, if◌then◌else◌}
use Rattle.serde_json.specs.{Data.Data, Data.array, Data.object, Data.Members, Data.no_members, Data.member, View.items_of}

abbrev pub members : List (List ℕ × Data) → Members
members [] = no_members
members (m ∷ ms) = member m.0 m.1 (members ms)

abbrev pub document : List (List ℕ × Data) → Data
document ms = object (members ms)

abbrev pub list : List Data → Data
list ds = array (items_of ds)

-- a member that stands only where the test holds
abbrev pub when : Bool → (List ℕ × Data) → List (List ℕ × Data)
when b m = if b then m ∷ [] else []
