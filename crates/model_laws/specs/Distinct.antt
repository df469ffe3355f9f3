-- Lists without repetition.
use Rattle.std.specs.Prelude.{◌≢◌, List, [], ◌∷◌}
use Rattle.desk_model.specs.Kept.{EachOf}

-- no two of the items have the same value
abbrev pub Distinct : {X Y : Type 0} → (X → Y) → List X → Type 0
Distinct value [] = Unit {0}
Distinct value (x ∷ xs) = EachOf (λ y. value x ≢ value y) xs × Distinct value xs
