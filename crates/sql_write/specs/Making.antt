-- What making a desk does to an empty database.
use Rattle.std.specs.Prelude.{◌≡◌, []}
use Rattle.sqlite.specs.Effect.{Database}
use Rattle.desk_model.specs.{Tables.Tables, declared.rows.Meta.Meta}
use Rattle.sql_schema.specs.Schema.{no_schema}
use Rattle.sql_tables.specs.Holds.{Holds}

-- tables with this row of `meta` and no other row
abbrev pub tables_of : Meta → Tables
tables_of meta = record { meta = meta; nonces = []; accounts = []; authorizations = []; orders = [] }

-- a database without an object becomes that of a desk with this row of `meta` and no other row
abbrev pub MakesDesk : Meta → Database → Database → Type 0
MakesDesk meta old new = old.schema ≡ no_schema → Holds new (tables_of meta)
