-- What serving one request does to a desk: nothing, or what its answer to one call does.
use Rattle.std.proofs.Common.{ℕ, List, Option, Some, None, Result, Ok, Err, Bool, arith, inl, inr}
use Rattle.std.specs.Prelude.{MatchResult}
use Rattle.desk_model.specs.declared.{call.Call.Call, reply.Reply.Reply}
use Rattle.store_api.specs.{Sight.Sight, Storing.Causes}
use Rattle.desk.specs.{Meets.ActsOnce, Meets.Meets, State.DeskState, declared.fault.DeskFault.DeskFault}
use Rattle.http_routes.specs.declared.request.Request.{Request}
use Rattle.http_routes.specs.declared.request.Request.TheVariants as request
use Rattle.http_wire.specs.declared.call.ReplyForm.{ReplyForm}
use Rattle.desk_http.specs.Serving.{Breaks, CutOffBy, Fails, HasAnswer, IsAnswer, Responds, Serves, ServesBy, call_of}
use Rattle.desk_http.specs.declared.{serving.Unanswered.Unanswered, serving.IoFault.IoFault, serving.Served.Served, overseeing.ReplySummary.ReplySummary}
use Rattle.desk_http.specs.declared.serving.Unanswered.TheVariants as cause

module _ {S C : Type 0} (v : Sight S C) (causes : Causes S) where
  -- as a desk answers a call
  meets : (call : Call) (old new : DeskState S) (result : Result Reply DeskFault) → IsAnswer v causes call old new result → Meets v call old new result
  meets call old new result a = grind arith

  module _ (at : ℕ) (random : List ℕ) where
    -- a request was answered
    responds_acts : (q : Request) (result : Result Reply DeskFault) (old new : DeskState S) → Responds v causes at random old q result new
        → ActsOnce v old new
    responds_acts (request.Asks what) result old new r =
        inr (record { call = call_of at random what; result = result; meets = meets (call_of at random what) old new result r })
    responds_acts (request.Looks l) result old new r = inl (r.1)
    responds_acts (request.Refused reply) result old new r = inl (r.1)

    -- so does the answer to what was asked
    answer_acts : (result : Result Reply DeskFault) (old new : DeskState S) → HasAnswer v causes at random None old new result
        → ActsOnce v old new
    answer_acts result old new a = responds_acts a.request result old new a.responds

    -- a request did not have its reply
    fails_acts : (why : Unanswered) (old new : DeskState S) → Fails v causes at random None old new why → ActsOnce v old new
    fails_acts (cause.Desk why) old new f = answer_acts (Err why) old new f
    fails_acts cause.Reading old new f = inl f
    fails_acts cause.Text old new f = answer_acts (Ok f.0) old new f.1

    -- the connection failed
    cut_acts : (base : List ℕ) (old new : DeskState S) (form : ReplyForm) (why : Option Unanswered)
        → CutOffBy v causes at random base None None None old new form why → ActsOnce v old new
    cut_acts base old new form None s = answer_acts (Ok s.0) old new s.1
    cut_acts base old new form (Some why) s = fails_acts why old new s.0

    -- it was served
    served_acts : (base : List ℕ) (old new : DeskState S) (form : ReplyForm) (why : Option Unanswered) (written : Bool) (summary : Option ReplySummary)
        → ServesBy v causes at random base None None None old new form why written summary → ActsOnce v old new
    served_acts base old new form None written summary s = answer_acts (Ok s.0) old new s.1
    served_acts base old new form (Some why) written summary s = fails_acts why old new s.0

    -- whatever became of it
    pub once_acts : (base : List ℕ) (old new : DeskState S) (served : Result Served IoFault)
        → MatchResult served (λ s. Serves v causes at random base None None None old new s) (λ e. Breaks v causes at random base None None None old new e)
        → ActsOnce v old new
    once_acts base old new served s = grind (arith, Ok, served_acts, Err, cut_acts)
