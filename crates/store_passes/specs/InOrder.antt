-- Tables in which a pass meets each row once.
use Rattle.std.specs.List.{flat_map}
use Rattle.desk_model.specs.{Derived.sorted_challenges, Tables.Tables}
use Rattle.model_laws.specs.Ordered.{Ascends, IsOrdered}

-- each table stands by number, and no two challenges of all authorizations have one number, so that sorted they ascend
pub record IsInOrder (T : Tables) : Type 0 where
  pub tables : IsOrdered T
  pub challenges : Ascends (λ c. c.number) 1 (sorted_challenges (flat_map (λ r. r.challenges) T.authorizations))
