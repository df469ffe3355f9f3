use Rattle.model_examples.proofs.lives.fifty_names_are_ordered.Goals as goal
use Rattle.model_examples.proofs.{Computing.computing, FiftyNames.fifty_names, FiftyNames.fifty_faultless, FiftyNames.fifty_taken, FiftyNames.fifty_ordered}

pub returns : goal.returns
unfolding computing
returns c = assumption (fifty_names, fifty_faultless, fifty_taken, fifty_ordered)
