use Rattle.std.proofs.Common.{refl}
use Rattle.app_files.specs.Endings.{unmade}
use Rattle.app_files.proofs.files.make_desk.Goals as goal

pub returns-in-Err : goal.returns-in-Err
returns-in-Err g c = unmade c.in-Err.fault refl c.in-Err.ensures
