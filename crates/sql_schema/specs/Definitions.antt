-- The statements that make the tables and indexes of format 2, one by one.
use Rattle.std.specs.Prelude.{ℕ, List, [], map, slice_index_or}
use Rattle.sql_schema.specs.declared.definitions.TheConstants.{DEFINITIONS}

-- all of them, in their order
abbrev pub definitions : List (List ℕ)
definitions = map (λ text. text.now) DEFINITIONS

-- the one at this place, from 0
abbrev pub definition_at : ℕ → List ℕ
definition_at step = slice_index_or definitions step []
