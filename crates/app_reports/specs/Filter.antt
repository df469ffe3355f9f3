-- What narrows a list of rows.
use Rattle.std.specs.Prelude.{◌≡◌, ◌⊎◌, List, [], ◌∷◌, Option, None, Some, ⊤, IsTrue}
use Rattle.std.specs.List.{list_any}
use Rattle.desk_model.specs.Name.{Name, same_name}

-- nothing is asked, or this value
abbrev pub Allows : {A : Type 0} → Option A → A → Type 0
Allows None value = ⊤
Allows (Some asked) value = asked ≡ value

-- no name is asked for, or this one
abbrev pub IsNamed : Option Name → Name → Type 0
IsNamed None name = ⊤
IsNamed (Some asked) name = IsTrue (same_name name asked)

-- no name is asked for, or one of these
abbrev pub AsksFor : Option Name → List Name → Type 0
AsksFor None names = ⊤
AsksFor (Some asked) names = IsTrue (list_any (λ name. same_name name asked) names)

module _ {X : Type 0} (Keeps : X → Type 0) where
  -- those of these rows that are kept, as they stand
  abbrev pub AreKept : List X → List X → Type 0
  AreKept [] kept = kept ≡ []
  AreKept (row ∷ rows) kept = (Keeps row × ((rest : List X) × (kept ≡ row ∷ rest) × AreKept rows rest)) ⊎ ((Keeps row → ⊥) × AreKept rows kept)
