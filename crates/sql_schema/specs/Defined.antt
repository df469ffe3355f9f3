-- What the definitions make of an empty database.
use Rattle.std.specs.{Prelude.◌≡◌, Prelude.ℕ, Prelude.[], List.AllByRecursion}
use Rattle.sqlite.specs.{Schema.Schema, Tree.Trees, Change.KeepsRows, Effect.Database, Effect.IsDatabase}
use Rattle.sql_schema.specs.Schema.{desk_schema, first_schema, first_tables, no_schema, schema_at}

-- no table has a row
abbrev pub AreEmpty : Schema → Trees → Type 0
AreEmpty schema trees = AllByRecursion (λ t. trees t.tree ≡ []) schema.tables

-- the tables and indexes of so many definitions are there, no other object, and no row
pub record IsDefined (steps : ℕ) (db : Database) : Type 0 where
  pub schema : db.schema ≡ schema_at steps
  pub empty : AreEmpty (schema_at steps) db.trees

-- so many definitions are carried out, where there was nothing
abbrev pub Defines : ℕ → Database → Database → Type 0
Defines steps old new = old.schema ≡ no_schema → IsDefined steps new

-- the table that format 1 lacks is there, without a row, and each other table has its rows
pub record HasKeyTable (old new : Database) : Type 0 where
  pub sound : IsDatabase new
  pub schema : new.schema ≡ desk_schema
  pub empty : new.trees 17 ≡ []
  pub kept : KeepsRows first_tables old.trees new.trees

-- it is made, where the schema was that of format 1
abbrev pub AddsKeyTable : Database → Database → Type 0
AddsKeyTable old new = old.schema ≡ first_schema → HasKeyTable old new
