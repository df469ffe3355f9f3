-- What becomes of a request: the first test that fails refuses it, else something is recorded and shown.
use Rattle.std.specs.Prelude.{[], Bool, false, true, Option, Some, None}
use Rattle.desk_model.specs.declared.refusal.Refusal.{Refusal}
pub use Rattle.desk_model.specs.declared.verdict.Verdict.{Verdict}
pub use Rattle.desk_model.specs.declared.verdict.Verdict.TheVariants.{Refused as refused, KeyTaken as key_taken, Answers as answers}
pub use Rattle.desk_model.specs.declared.verdict.Verdict.TheVariants.{Opens as opens, Orders as orders, Moves as moves}
pub use Rattle.desk_model.specs.declared.verdict.Shows.{Shows}

-- the test, or this refusal
unfoldable pub check : Bool → Refusal → Verdict → Verdict
check true why v = v
check false why v = refused why []

-- the value that is there, or this refusal
unfoldable pub given : {X : Type 0} → Option X → Refusal → (X → Verdict) → Verdict
given None why v = refused why []
given (Some x) why v = v x

-- no fault, or the refusal that it is
unfoldable pub unless_fault : Option Refusal → Verdict → Verdict
unless_fault None v = v
unless_fault (Some why) v = refused why []

-- one of two
unfoldable pub choose : Bool → Verdict → Verdict → Verdict
choose true v w = v
choose false v w = w
