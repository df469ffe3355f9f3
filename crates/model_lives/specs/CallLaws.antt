-- What a call records, and the history after it.
use Rattle.std.specs.Prelude.{◌*◌, ◌≤◌, ◌≡◌, None, IsTrue, length}
use Rattle.desk_model.specs.{Decide.decide, Decide.after, Entry.History, Limits.last_moment, History.clock, History.moment_of, Legal.EachFollows, Legal.Legal}
use Rattle.desk_model.specs.{Legal.numbers_fit, Run.count_pieces, Run.fault, Run.IsFormedCall, declared.call.Call.Call}

-- what a call records may follow what was recorded before it, and keeps the history legal
pub record CallsKeepLegal : Type 0 where
  -- a call acts no earlier than the latest recorded moment
  pub clock : (F : History) (call : Call) → clock F ≤ moment_of call.at F
  -- and no later than the last moment of all, where it was made no later
  pub in_time : (F : History) (call : Call) → EachFollows F → call.at ≤ last_moment → moment_of call.at F ≤ last_moment
  -- each entry of a call may follow those before it, whatever numbers it gives
  pub each :
      (F : History) (call : Call) → Legal F → IsFormedCall call → call.at ≤ last_moment →
      16 * count_pieces (decide F call).entries ≤ length call.random →
      EachFollows (after F call)
  -- where its numbers fit, too, the history stays legal
  pub numbered : (F : History) (call : Call) → Legal F → EachFollows (after F call) → IsTrue (numbers_fit (after F call)) → Legal (after F call)
  -- a call without a fault keeps the history legal
  pub legal : (F : History) (call : Call) → Legal F → IsFormedCall call → fault F call ≡ None → Legal (after F call)
