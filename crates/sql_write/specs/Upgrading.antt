-- What makes format 2 of format 1.
use Rattle.std.specs.Prelude.{◌≡◌, List, []}
use Rattle.sqlite.specs.Effect.{Database}
use Rattle.store_columns.specs.{Columns.known_format, Flat.challenge_rows, Flat.key_rows, declared.columns.AnswerKey.AnswerKey}
use Rattle.model_laws.specs.Placing.{puts}
use Rattle.desk_model.specs.{Tables.Tables, declared.rows.Meta.Meta}
use Rattle.sql_write.specs.Makes.{PutsAll}
use Rattle.sql_tables.specs.{Effects.Puts, Sorted.sorted_by, Holds.Holds, Holds.HoldsFirst, Layouts.formatted_layout, Layouts.key_layout}

-- the keys of answers are put, then the row of `meta` in the format of a desk
abbrev pub Fills : Meta → List AnswerKey → Database → Database → Type 0
Fills meta keys old new = (mid : Database) × PutsAll key_layout keys old mid × Puts formatted_layout (known_format, meta) mid new

-- put one after the other, these are the keys of all answers, by number
abbrev pub AreKeysOf : List AnswerKey → Tables → Type 0
AreKeysOf keys T = puts key_layout.key keys [] ≡ sorted_by key_layout.key (key_rows (challenge_rows T.authorizations))

-- whatever tables with this row of `meta` and these keys of answers the database holds in format 1, it then holds them in format 2
abbrev pub Upgrades : Meta → List AnswerKey → Database → Database → Type 0
Upgrades meta keys old new = (T : Tables) → HoldsFirst old T → T.meta ≡ meta → AreKeysOf keys T → Holds new T
