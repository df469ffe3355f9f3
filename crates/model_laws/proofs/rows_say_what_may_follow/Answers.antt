use Rattle.model_laws.proofs.AllowedFacts.{allowed, legal_grows}
use Rattle.model_laws.proofs.rows_say_what_may_follow.Goals as goal

pub returns : goal.returns
returns c = record { allowed = allowed; legal = legal_grows }
