-- A reading has an error of the disk only where the disk met a fault.
use Rattle.std.proofs.Common.{◌≡◌, ℕ, List, None, Option, sym, ◌∙◌, rules}
use Rattle.sqlite_resolve.specs.declared.compiled.Compiled.{Compiled}
use Rattle.sqlite_schema.specs.declared.command.Returning.{Returning}
use Rattle.sqlite.specs.State.{State, FailsToQuery, FailsToShow, IsNotRun}
use Rattle.sqlite.specs.{Order.Row, declared.error.Error.Error}
use Rattle.sql_read.specs.{Failures.IsMet, Failures.IsOfNoDevice, Selecting.IsQuery}
use Rattle.sql_read.proofs.Selecting.{none_understood}
use Rattle.sql_schema.specs.Stays.{Asks}

-- ---- errors

-- an error that is known to be none of the disk
pub no_device : (old new : State) (e : Error) → IsOfNoDevice e → IsMet old new e
no_device old new e none is = absurd (let x = sym none ∙ is in cc)

-- ---- the engine

-- one that shows nothing of a write
not_shown : (old new : State) (text : List ℕ) (c : Compiled) (params : Row) (e : Error) (r : Option Returning) → r ≡ None
    → FailsToShow old new text c params e r → IsMet old new e
not_shown old new text c params e r h k = search rules

-- a query that fails
pub query_met : (text : List ℕ) (params : Row) (old new : State) (e : Error) → IsQuery text → FailsToQuery text params old new e → IsMet old new e
unfolding FailsToQuery IsNotRun
query_met text params old new e h k = search (rules, not_shown, none_understood)

-- ---- one call after another

-- what was met is met still
pub met_on : (old mid new : State) (e : Error) → Asks mid new → IsMet old mid e → IsMet old new e
met_on old mid new e asks met is = search rules

-- behind a call that met nothing
pub met_behind : (old mid new : State) (e : Error) → Asks old mid → IsMet mid new e → IsMet old new e
met_behind old mid new e asks met is = search rules
