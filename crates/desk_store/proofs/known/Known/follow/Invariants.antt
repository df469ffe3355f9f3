use Rattle.std.proofs.Common.{drop}
use Rattle.desk_model.specs.{Change.applied, Tables.Tables}
use Rattle.desk_store.specs.Known.{IsKnownOf}
use Rattle.desk_store.proofs.Knowing.{Follows}
use Rattle.desk_store.proofs.known.Known.follow.Given as goal

abbrev pub invariant-loop-change : goal.invariant-loop-change
invariant-loop-change l = (T : Tables) → IsKnownOf l.fn.self T → Follows l.self (drop l.change-index l.changes) (applied l.changes T)
