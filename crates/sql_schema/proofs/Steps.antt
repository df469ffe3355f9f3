-- Each statement in its turn.
use Rattle.std.proofs.{Common.◌<◌, Common.◌+◌, Common.ℕ, Common.[], Common.Ok, Common.arith, lemmas.Bool.Decides.nat_tests}
use Rattle.sqlite.specs.{Effect.Database, State.State, State.Survives}
use Rattle.sql_schema.specs.{Advances.Advances, Advances.Performs, Defined.AddsKeyTable, Defined.Defines, Definitions.definition_at, Schema.schema_at}
use Rattle.sql_schema.proofs.Making.{MovesOn, makes, widens}
use Rattle.sql_schema.proofs.{AdvanceLemmas.advances_then, AdvanceLemmas.performs_advances, Meanings.create_chall_key_makes, Meanings.each_makes}

-- one more definition, where there was nothing before the first
defines_next : (step : ℕ) (first old new : Database) → Defines step first old → MovesOn (schema_at step) (schema_at (step + 1)) old new
    → Defines (step + 1) first new
defines_next step first old new before on none = grind (arith, nat_tests)

-- one more statement of the transaction
pub defines_more : (first old new : State) (step count : ℕ) → step < 16 → Survives old new (λ _. ⊥) → Advances first old (Defines step)
    → Performs (definition_at step) [] old new (Ok count)
    → Advances first new (Defines (step + 1))
defines_more first old new step count low on before ran = grind (
  arith,
  nat_tests,
  MovesOn,
  performs_advances,
  makes,
  each_makes,
  advances_then,
  defines_next,
  (makes (schema_at step) (schema_at (step + 1)) (definition_at step) (each_makes step low) old new count),
  (each_makes step low),
  (defines_next step first.now old.now new.now),
)

-- the table that format 1 lacks, made where there is format 1
pub adds_key_table : (old new : State) (count : ℕ) → Performs (definition_at 15) [] old new (Ok count) → Advances old new AddsKeyTable
adds_key_table old new count ran =
    performs_advances (definition_at 15) [] old new count AddsKeyTable (λ executes has.
    let wide = widens (schema_at 15) (schema_at 16) (definition_at 15) create_chall_key_makes old new count executes has in
    record { sound = wide.sound; schema = wide.schema_is; empty = wide.empty; kept = wide.kept }) ran
