-- Changes, one after another.
use Rattle.std.proofs.Common.{◌≡◌, List, [], ◌∷◌, ◌++◌, refl}
use Rattle.desk_model.specs.{Tables.Tables, declared.rows.Change.Change, Change.applied, Change.applied_one}

-- the last change comes upon what the others made
pub applied-last : (cs : List Change) (c : Change) (T : Tables) → applied (cs ++ c ∷ []) T ≡ applied_one c (applied cs T)
applied-last [] c T = refl
applied-last (d ∷ cs) c T = applied-last cs c (applied_one d T)
