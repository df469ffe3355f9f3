use Rattle.model_laws.proofs.Faults.{no_faults}
use Rattle.model_laws.proofs.pictures_have_no_faults.Goals as goal

pub returns : goal.returns
returns c = no_faults
