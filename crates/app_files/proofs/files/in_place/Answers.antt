use Rattle.std.proofs.Common.{refl}
use Rattle.app_files.proofs.files.in_place.Goals as goal

pub returns-clause-displaced : goal.returns-clause-displaced
returns-clause-displaced g c = record { fault = (_, refl); closing = c.close-closed.result.0; closed = c.close-closed.ensures }
