-- What is left of a connection after calls that change nothing.
use Rattle.std.proofs.Common.{List, [], ℕ, IfOk, IfErr, Result, Ok, Err, ◌∙◌, arith}
use Rattle.std.proofs.lemmas.Bool.Decides.{nat_tests}
use Rattle.sqlite.specs.{Order.Row, declared.error.Error.Error, State.State, State.IsNotRun, State.IsUnchanged}
use Rattle.sql_schema.specs.Stays.{Asks, Stays}

-- one after the other
pub stays_then : (a b c : State) → Stays a b → Stays b c → Stays a c
stays_then a b c p q = grind (arith, nat_tests)

-- the call was answered
pub stays_unchanged : (old new : State) → IsUnchanged old new → Stays old new
stays_unchanged old new same = record { was_open = λ _. same.0.was_open; committed = λ _. same.0.committed_is; now = λ _ is. same.0.now_is ∙ is }

-- the text is no statement, or the store failed
pub stays_not_run : (old new : State) (text : List ℕ) (params : Row) (e : Error) → IsNotRun old new text params e → Stays old new
unfolding IsNotRun
stays_not_run old new text params e h = grind (arith, nat_tests)

-- a text was prepared, and not run
pub stays_asked : {A : Type 0} (r : Result A Error) (old new : State) (text : List ℕ) (Is : A → Type 0) → IfOk r (λ a. Is a × IsUnchanged old new)
    → IfErr r (λ e. (params : Row) → IsNotRun old new text params e) → Stays old new
stays_asked (Ok a) old new text Is ok err = stays_unchanged old new ok.1
stays_asked (Err e) old new text Is ok err = stays_not_run old new text [] e (err [])

-- one after the other
pub asks_then : (a b c : State) → Asks a b → Asks b c → Asks a c
asks_then a b c p q = grind (arith, nat_tests)

-- a call that was not made
pub asks_nothing : (s : State) → Asks s s
asks_nothing s = grind (arith, nat_tests)
