-- What an engine tells that is asked whether a word is a statement.
use Rattle.std.specs.Prelude.{Bool, true, false, Result, Ok, Err}
use Rattle.sqlite.specs.declared.error.{Error.Error, Error.TheVariants.SqlInputError}

-- its connection is open: it says that the word is none
abbrev pub tells_open : {A : Type 0} → Result A Error → Bool
tells_open (Ok a) = true
tells_open (Err (SqlInputError e)) = true
tells_open (Err e) = false
