-- Texts of queries.
use Rattle.std.specs.Prelude.{◌≡◌, ℕ, List, Bool, true, false, Ok, Err}
use Rattle.sqlite_ast.specs.declared.Statement.{Statement}
use Rattle.sqlite_ast.specs.declared.Statement.TheVariants as written
use Rattle.sqlite_resolve.specs.{Compile.first, Lowering.Checked}
use Rattle.sqlite_syntax.specs.declared.statement.Parsed.{Parsed}

-- SELECT, and no other statement
abbrev pub is_select : Statement → Bool
is_select (written.Select s) = true
is_select _ = false

-- what was parsed is a query
abbrev pub selects : Checked Parsed → Bool
selects (Ok p) = is_select p.statement
selects (Err e) = false

-- the text is that of a query
abbrev pub IsQuery : List ℕ → Type 0
IsQuery text = selects (first text) ≡ true
