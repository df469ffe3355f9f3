-- What a desk's tables in format 1 are to a file.
use Rattle.sqlite.specs.State.{State}
use Rattle.desk_model.specs.Tables.{Tables}
use Rattle.sql_read.specs.Failures.{MayRead}
use Rattle.sql_upgrade.specs.FirstDesks.{HasFirst}

-- a file with them may be read
pub first_may_read : (s : State) (T : Tables) → HasFirst s T → MayRead s
first_may_read s T has = record { is_open = has.is_open; unlimited = has.unlimited }
