-- What is left of a connection after a query.
use Rattle.std.proofs.Common.{List, ℕ, IfOk, IfErr, OnOk, Vec, Result, rules}
use Rattle.std.specs.declared.alloc.Global.{Global}
use Rattle.sqlite.specs.{Order.Row, State.State, State.IsUnchanged, State.FailsToQuery, State.Shown, declared.error.Error.Error}
use Rattle.sql_schema.specs.Stays.{Stays}
use Rattle.sql_schema.proofs.StaysLemmas.{stays_not_run}
use Rattle.sql_read.specs.Selecting.{IsQuery}
use Rattle.sql_read.proofs.Selecting.{unchanged_shown}

-- a query failed
pub stays_failed : (text : List ℕ) (params : Row) (old new : State) (e : Error) → IsQuery text → FailsToQuery text params old new e → Stays old new
unfolding FailsToQuery
stays_failed text params old new e h k = search (rules, stays_not_run)

-- an answer changed nothing
pub unchanged_queried : (r : Result (Vec Row Global) Error) (old new : State) (text : List ℕ) (params : Row) → IsQuery text
    → IfOk r (λ rows. Shown text params old new rows.items) → OnOk r (IsUnchanged old new)
unchanged_queried r old new text params h k = search (rules, unchanged_shown)

-- a query that was answered, or failed
pub stays_queried : (r : Result (Vec Row Global) Error) (old new : State) (text : List ℕ) (params : Row) → IsQuery text
    → IfOk r (λ rows. Shown text params old new rows.items) → IfErr r (FailsToQuery text params old new) → Stays old new
stays_queried r old new text params h k l = search (rules, unchanged_shown, stays_failed)
