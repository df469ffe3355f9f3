-- What a reading tells of the tables that the database held.
use Rattle.sqlite.specs.State.{State, HasCleanDisk}
use Rattle.desk_model.specs.Tables.{Tables}
use Rattle.sql_tables.specs.Holds.{Holds}

-- what is so of whatever tables the database held, where the disk is honest
abbrev pub ForHeld : State → State → (Tables → Type 0) → Type 0
ForHeld old new P = HasCleanDisk new → (T : Tables) → Holds old.now T → P T
