-- A desk is closed after a connection exactly where a fault that closes it is found.
use Rattle.std.proofs.Common.{◌≡◌, ℕ, Bool, true, false, List, Option, None, Some, Result, Ok, Err, arith}
use Rattle.std.specs.Prelude.{IfErr, IfOk, MatchResult}
use Rattle.desk_model.specs.declared.reply.Reply.{Reply}
use Rattle.store_api.specs.{Sight.Sight, Storing.Causes}
use Rattle.desk.specs.{Answers.is_closed_after, Faults.closes, State.DeskState, declared.fault.DeskFault.DeskFault}
use Rattle.desk.specs.{Looking.is_closed_by_look, declared.looking.LookFault.LookFault}
use Rattle.desk.specs.declared.fault.DeskFault.TheVariants as deskfault
use Rattle.http_routes.specs.declared.{looked.Looked.Looked, request.Request.Request}
use Rattle.http_routes.specs.declared.request.Request.TheVariants as request
use Rattle.http_wire.specs.declared.call.ReplyForm.{ReplyForm}
use Rattle.desk_http.specs.InTurn.{Ends, IsClosedBy, ServesClient, ended_by, fault_after, fault_of, if_closes}
use Rattle.desk_http.specs.Showing.{EndsLook, Shower, ShowsTo}
use Rattle.desk_http.specs.{Serving.HasAnswer, Serving.Responds, Serving.ServesBy, declared.serving.Unanswered.Unanswered, declared.serving.IoFault.IoFault}
use Rattle.desk_http.specs.{declared.serving.Served.Served, declared.overseeing.ReplySummary.ReplySummary, declared.moment_bound.MomentBound.MomentBound}
use Rattle.desk_http.specs.declared.serving.Unanswered.TheVariants as cause

-- the desk is closed by this fault, or, where there is none, it is open
abbrev pub EndsBy : {S : Type 0} → Option DeskFault → DeskState S → Type 0
EndsBy None desk = desk.is_closed ≡ false
EndsBy (Some why) desk = IsClosedBy why desk

-- by a fault that closes it, if it does
ends_if : {S : Type 0} (why : DeskFault) (is : Bool) (desk : DeskState S) → closes why ≡ is → desk.is_closed ≡ is → EndsBy (if_closes why is) desk
ends_if why is desk closes closed = grind (arith, true, false)

-- that it is to be opened again, where it is closed
reopens_if : {S : Type 0} (is : Bool) (desk : DeskState S) → desk.is_closed ≡ is → EndsBy (if_closes deskfault.Reopen is) desk
reopens_if is desk closed = grind (arith, true, false)

-- what is so of each outcome is so of the result
pub match_of : {T E : Type 0} (P : T → Type 0) (Q : E → Type 0) (result : Result T E) → IfOk result P → IfErr result Q → MatchResult result P Q
match_of P Q result ok err = grind (arith, Ok, Err)

module _ {S C : Type 0} (v : Sight S C) (causes : Causes S) (at : ℕ) (random : List ℕ) (old new : DeskState S) (opened : old.is_closed ≡ false) where
  -- an open desk is closed by what it answers
  responds_ends : (q : Request) (result : Result Reply DeskFault) → Responds v causes at random old q result new → new.is_closed ≡ is_closed_after result
  responds_ends q result r = grind arith

  -- so it is by the answer to what was asked
  answer_ends : (result : Result Reply DeskFault) → HasAnswer v causes at random None old new result → new.is_closed ≡ is_closed_after result
  answer_ends result a = responds_ends a.request result a.responds

  -- by a connection that was served
  served_ends : (base : List ℕ) (form : ReplyForm) (why : Option Unanswered) (written : Bool) (summary : Option ReplySummary)
      → ServesBy v causes at random base None None None old new form why written summary → EndsBy (fault_of why) new
  served_ends base form why written summary s = grind (arith, None, answer_ends, Ok, Some, ends_if, Err)

-- by what was shown
look_ends : {S C : Type 0} (v : Sight S C) (hook : Shower S) (asked : Looked) (done : Result Unit LookFault) (mid after : Option (List ℕ)) (served : Served)
    (new : DeskState S) → new.is_closed ≡ is_closed_by_look done → EndsLook v hook asked done mid after (Ok served) → EndsBy (fault_of served.cause) new
look_ends v hook asked done mid after served new flag ends = grind (arith, Ok, EndsBy, Err, Result, ends_if)

-- by what was asked to be shown
shown_ends : {S C : Type 0} (v : Sight S C) (hook : Shower S) (asked : Looked) (served : Served) (old new : DeskState S) → old.is_closed ≡ false
    → ShowsTo v hook asked None None old new (Ok served) → EndsBy (fault_of served.cause) new
shown_ends v hook asked served old new opened h7 = grind (arith, look_ends, None)

-- by a connection, whatever became of it
pub client_ends : {S C : Type 0} (v : Sight S C) (causes : Causes S) (hook : Shower S) (bound : MomentBound) (came : ℕ) (asked : Option ℕ)
    (served : Result Served IoFault) (next : MomentBound) (old new : DeskState S) → old.is_closed ≡ false
    → ServesClient v causes hook bound came None None None old new asked served next → EndsBy (fault_after served new.is_closed) new
client_ends v causes hook bound came asked served next old new opened h11 = grind (arith, Ok, served_ends, shown_ends, Err, reopens_if)

-- and so by how the serving of it ends
pub ends_next : {S : Type 0} (why : Option DeskFault) (kept : Bool) (desk : DeskState S) → EndsBy why desk → Ends (ended_by why kept) desk
ends_next why kept desk by = grind (arith, Some, None, true, false)
