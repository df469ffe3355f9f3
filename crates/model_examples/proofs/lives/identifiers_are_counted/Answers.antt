use Rattle.model_examples.proofs.lives.identifiers_are_counted.Goals as goal
use Rattle.model_examples.proofs.{Computing.computing, Naming.naming}

pub returns : goal.returns
unfolding computing naming
returns c = assumption
