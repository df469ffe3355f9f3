use Rattle.model_examples.proofs.lives.first_order_holds.Goals as goal
use Rattle.model_examples.proofs.Computing.{computing}
use Rattle.model_examples.proofs.Orders.{first_order, enough_random, short_random_keeps_nonce, short_random_records_nothing, first_calls}

pub returns : goal.returns
unfolding computing
returns c = assumption (first_order, enough_random, short_random_keeps_nonce, short_random_records_nothing, first_calls)
