-- The fault of one row.
use Rattle.std.specs.Prelude.{Option, Some, None, List, [], ◌∷◌}
use Rattle.desk_model.specs.declared.rows.StatusFault.{StatusFault}

-- a fault, if there is one, as a list
abbrev pub listed_fault : Option StatusFault → List StatusFault
listed_fault None = []
listed_fault (Some fault) = fault ∷ []
