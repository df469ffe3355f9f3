-- What contracts see of a desk.
use Rattle.std.specs.Prelude.{Bool}
use Rattle.desk_model.specs.Terms.{Terms}

-- its store, the policy that it was made with, and whether it is closed
pub record DeskState (S : Type 0) : Type 0 where
  pub store : S
  pub policy : Terms
  pub is_closed : Bool
