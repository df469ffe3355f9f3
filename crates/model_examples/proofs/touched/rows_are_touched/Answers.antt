use Rattle.model_examples.proofs.touched.rows_are_touched.Goals as goal
use Rattle.model_examples.proofs.{Computing.computing, TouchedRows.new_order}

pub returns : goal.returns
unfolding computing
returns c = assumption new_order
