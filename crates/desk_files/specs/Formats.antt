-- Desks in either format: in format 1, or in today's.
use Rattle.std.specs.Prelude.{◌≡◌, ◌⊎◌}
use Rattle.sqlite.specs.{Effect.Database, State.State, Tree.Trees}
use Rattle.desk_model.specs.Tables.{Tables}
use Rattle.desk_store.specs.Desks.{AreOfDesk, HasDesk}
use Rattle.sql_upgrade.specs.FirstDesks.{HasFirst, IsFirstDesk}

-- these are the trees of a database with these tables in format 1
abbrev pub AreOfFirst : Trees → Tables → Type 0
AreOfFirst trees T = (db : Database) × (trees ≡ db.trees) × IsFirstDesk db T

-- and here in one of the two
abbrev pub AreOfEither : Trees → Tables → Type 0
AreOfEither trees T = AreOfDesk trees T ⊎ AreOfFirst trees T

-- the connection has these tables in one of the two
abbrev pub HasEither : State → Tables → Type 0
HasEither s T = HasDesk s T ⊎ HasFirst s T
