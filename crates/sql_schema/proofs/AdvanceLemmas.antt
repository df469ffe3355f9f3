-- Calls inside a transaction, one after the other.
use Rattle.std.proofs.{Common.ℕ, Common.List, Common.Ok, Common.OnErr, Common.Result, Common.arith, lemmas.Bool.Decides.nat_tests}
use Rattle.sqlite.specs.{Order.Row, Effect.Database, declared.error.Error.Error, State.State, State.Survives, State.Executes}
use Rattle.sql_schema.specs.Advances.{Advances, Declines, KeepsLast, Performs}

-- a statement that failed declines
pub declines_unless_answered : (text : List ℕ) (params : Row) (old new : State) (r : Result ℕ Error) → Performs text params old new r
    → OnErr r (Declines old new)
declines_unless_answered text params old new r h = grind (arith, nat_tests)

-- a statement inside a transaction commits nothing
pub performs_keeps : (text : List ℕ) (params : Row) (old new : State) (r : Result ℕ Error) → Performs text params old new r → KeepsLast old new
performs_keeps text params old new r h k l g = grind (arith, nat_tests)

-- a statement that was run advances the transaction by what it does
pub performs_advances : (text : List ℕ) (params : Row) (old new : State) (count : ℕ) (Does : Database → Database → Type 0)
    → (Executes text params old new (Ok count) → Does old.now new.now)
    → Performs text params old new (Ok count) → Advances old new Does
performs_advances text params old new count Does means ran clean inside = grind (arith, nat_tests)

-- what is done may be said in other words
pub advances_as : (old new : State) (Does Says : Database → Database → Type 0) → (Does old.now new.now → Says old.now new.now) → Advances old new Does
    → Advances old new Says
advances_as old new Does Says means it clean inside = grind (arith, nat_tests)

-- one after the other
pub advances_then : (a b c : State) (Does Then Both : Database → Database → Type 0) → (Does a.now b.now → Then b.now c.now → Both a.now c.now)
    → Survives b c (λ _. ⊥)
    → Advances a b Does → Advances b c Then → Advances a c Both
advances_then a b c Does Then Both joins on first last clean inside = grind (arith, nat_tests)
