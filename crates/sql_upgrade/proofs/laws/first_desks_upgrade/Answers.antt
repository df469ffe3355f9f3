use Rattle.sql_upgrade.proofs.FirstDesksKept.{pictures_are_first}
use Rattle.sql_upgrade.proofs.laws.first_desks_upgrade.Goals as goal

pub returns : goal.returns
returns c = pictures_are_first
