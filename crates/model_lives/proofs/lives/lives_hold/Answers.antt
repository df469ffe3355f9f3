use Rattle.model_lives.proofs.{Ended.ended_stays, Nonces.nonces_serve_once}
use Rattle.model_lives.proofs.Extends.{acknowledged_stays, histories_are_legal, histories_are_of_calls, replies_are_decided}
use Rattle.model_lives.proofs.lives.lives_hold.Goals as goal

pub returns : goal.returns
returns c =
    record {
      legal = histories_are_legal;
      of_calls = histories_are_of_calls;
      acknowledged = acknowledged_stays;
      replies = replies_are_decided;
      nonces = nonces_serve_once;
      ended = ended_stays;
    }
