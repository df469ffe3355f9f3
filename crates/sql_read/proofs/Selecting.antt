-- A query shows nothing of a write, whatever the schema is.
use Rattle.std.proofs.Common.{◌≡◌, ℕ, true, List, None, Option, Ok, rules}
use Rattle.sqlite_value.specs.Order.{Row}
use Rattle.sqlite_trees.specs.Tree.{Trees}
use Rattle.sqlite_schema.specs.declared.{schema.Schema.Schema, command.Command.Command, command.Returning.Returning}
use Rattle.sqlite_ast.specs.declared.Statement.{Statement}
use Rattle.sqlite_syntax.specs.declared.statement.Parsed.{Parsed}
use Rattle.sqlite_resolve.specs.{declared.compiled.Compiled.Compiled, Compile.first, Compile.planned, Compile.compiled, Compile.meaning, Compile.returning}
use Rattle.sqlite.specs.{Listing.understood, State.State, State.Shown, State.IsUnchanged, State.CommitsShowing}
use Rattle.sql_read.specs.Selecting.{IsQuery, is_select, selects}

-- SELECT has no RETURNING
none_returned : (s : Schema) (base : ℕ) (st : Statement) → is_select st ≡ true → returning s base st ≡ Ok None
unfolding returning
none_returned s base st h = search rules

-- nor what it means
none_meant : (s : Schema) (p : Parsed) (base : ℕ) (found : Command × Option Returning) → is_select p.statement ≡ true → meaning s p base ≡ Ok found
    → found.1 ≡ None
unfolding meaning
none_meant s p base found is h = search (rules, none_returned)

-- nor its plan
none_planned : (s : Schema) (p : Parsed) (plan : List (List ℕ) × (Command × Option Returning)) → is_select p.statement ≡ true → planned s p ≡ Ok plan
    → plan.1.1 ≡ None
unfolding planned
none_planned s p plan is h = search (rules, none_meant)

-- nor what is compiled of it
none_compiled : (s : Schema) (text : List ℕ) (c : Compiled) → selects (first text) ≡ true → compiled s text ≡ Ok c → c.returning ≡ None
unfolding compiled
none_compiled s text c is h = search (rules, none_planned)

-- what is understood of a query
pub none_understood : (s : Schema) (text : List ℕ) (c : Compiled) → selects (first text) ≡ true → understood s text ≡ Ok c → c.returning ≡ None
unfolding understood
none_understood s text c is h = search (rules, none_compiled)

-- so it commits nothing
pub commits_none : (text : List ℕ) (params : Row) (s : State) (db : Trees) → IsQuery text → CommitsShowing text params s db → ⊥
unfolding CommitsShowing
commits_none text params s db is h = search (rules, none_understood)

-- and its answer changes nothing
pub unchanged_shown : (text : List ℕ) (params : Row) (old new : State) (rows : List Row) → IsQuery text → Shown text params old new rows → IsUnchanged old new
unfolding Shown
unchanged_shown text params old new rows is h = let none = none_understood old.now.schema text h.0 is h.1.is in (rw none at h.2).3
