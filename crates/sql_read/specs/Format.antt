-- Which format the tables are of.
use Rattle.std.specs.Prelude.{◌≡◌, ◌⊎◌, ℤ, ◌<ℤ◌, List, [], ◌∷◌}
use Rattle.sqlite.specs.State.{State, FailsToQuery, Shown}
use Rattle.sqlite.specs.{Effect.Database, Order.Row, Order.column, declared.types.Value.TheVariants.Int, declared.error.Error.Error}
use Rattle.store_columns.specs.Columns.{known_format}
use Rattle.desk_model.specs.declared.rows.Meta.{Meta}
use Rattle.sql_schema.specs.declared.meta.TheConstants as meta
use Rattle.sql_schema.specs.Schema.{desk_schema, first_schema}
use Rattle.sql_tables.specs.Images.{formatted_image}

-- there is one row, and its value is a number above this format
pub record IsNewer (rows : List Row) : Type 0 where
  pub row : Row
  pub format : ℤ
  pub alone : rows ≡ row ∷ []
  pub is : column row 0 ≡ Int format
  pub above : known_format <ℤ format

-- the database has the tables of a desk, in either format, and in `meta` one row, of a later format
pub record IsOfLaterFormat (db : Database) : Type 0 where
  pub schema : (db.schema ≡ desk_schema) ⊎ (db.schema ≡ first_schema)
  pub format : ℤ
  pub meta : Meta
  pub alone : db.trees 0 ≡ formatted_image (format, meta) ∷ []
  pub above : known_format <ℤ format

-- the database showed formats of which this is so
abbrev pub ShowsFormats : State → State → (List Row → Type 0) → Type 0
ShowsFormats old new P = (rows : List Row) × Shown meta.SELECT_FORMAT.now [] old new rows × P rows

-- asked for them, it failed so
abbrev pub FailsToShowFormat : State → State → Error → Type 0
FailsToShowFormat = FailsToQuery meta.SELECT_FORMAT.now []
