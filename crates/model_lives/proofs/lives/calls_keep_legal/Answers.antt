use Rattle.model_lives.proofs.SoundCalls.{moment_later, moment_in_time, call_follows, legal_by_numbers, legal_after}
use Rattle.model_lives.proofs.lives.calls_keep_legal.Goals as goal

pub returns : goal.returns
returns c = record { clock = moment_later; in_time = moment_in_time; each = call_follows; numbered = legal_by_numbers; legal = legal_after }
