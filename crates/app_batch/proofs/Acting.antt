-- What a line of a batch does to a desk: nothing, or what the desk's answer to its call does.
use Rattle.std.proofs.Common.{ℕ, List, Result, Ok, Err, inl, inr}
use Rattle.desk_model.specs.declared.reply.Reply.{Reply}
use Rattle.store_api.specs.Sight.{Sight}
use Rattle.desk.specs.{Meets.ActsOnce, State.DeskState, declared.fault.DeskFault.DeskFault}
use Rattle.http_routes.specs.{declared.lines.Line.Line, declared.request.Request.Request}
use Rattle.app_batch.specs.{LineRequests.call_of, declared.fault.AnswerFault.AnswerFault, Said.Answered, Said.DeclinesTo, Said.RepliesTo}
use Rattle.http_routes.specs.declared.request.Request.TheVariants as request
use Rattle.app_batch.specs.declared.fault.AnswerFault.TheVariants as answerfault

module _ {S C : Type 0} (v : Sight S C) where
  -- what it asks was replied to
  replies_act : (old new : DeskState S) (l : Line) (q : Request) (reply : Reply) → RepliesTo v old l q reply new → ActsOnce v old new
  replies_act old new l (request.Asks what) reply is = inr (record { call = call_of l what; result = Ok reply; meets = is })
  replies_act old new l (request.Looks asked) reply is = inl (is.1)
  replies_act old new l (request.Refused refusal) reply is = inl (is.1)

  -- the desk declined it
  declines_act : (old new : DeskState S) (l : Line) (q : Request) (why : DeskFault) → DeclinesTo v old l q why new → ActsOnce v old new
  declines_act old new l (request.Asks what) why is = inr (record { call = call_of l what; result = Err why; meets = is })
  declines_act old new l (request.Looks asked) why is = absurd is
  declines_act old new l (request.Refused refusal) why is = absurd is

  -- whatever becomes of it
  pub line_acts : {V : Type 0} (items : V → List ℕ) (old new : DeskState S) (bytes : List ℕ) (result : Result V AnswerFault)
      → Answered v items old bytes result new → ActsOnce v old new
  line_acts items old new bytes (Ok said) is = replies_act old new is.1.line is.1.request is.0 is.1.replies
  line_acts items old new bytes (Err answerfault.NotACall) is = inl (is.1)
  line_acts items old new bytes (Err (answerfault.Desk why)) is = declines_act old new is.line is.request why is.declines
  line_acts items old new bytes (Err answerfault.Memory) (inl same) = inl same
  line_acts items old new bytes (Err answerfault.Memory) (inr is) = replies_act old new is.1.line is.1.request is.0 is.1.replies
