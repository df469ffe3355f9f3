-- A call at a moment past the last one changes nothing.
use Rattle.std.proofs.Common.{◌≡◌, ◌<◌, ℕ, Bool, false, List, Option, None, Some, Result, Ok, Err, arith}
use Rattle.std.specs.Prelude.{MatchResult}
use Rattle.desk_model.specs.{Limits.last_moment, declared.reply.Reply.Reply}
use Rattle.store_api.specs.{Sight.Sight, Storing.Causes}
use Rattle.desk.specs.State.{DeskState}
use Rattle.http_routes.specs.declared.request.Request.{Request}
use Rattle.http_wire.specs.declared.call.ReplyForm.{ReplyForm}
use Rattle.desk_http.specs.{MomentBounds.admits, MomentBounds.moment_for, Serving.Fails, declared.serving.Unanswered.Unanswered, declared.serving.Served.Served}
use Rattle.desk_http.specs.{Serving.Breaks, Serving.CutOffBy, Serving.HasAnswer, Serving.Responds, Serving.Serves, Serving.ServesBy, InTurn.ServesAt}
use Rattle.desk_http.specs.{declared.moment_bound.MomentBound.MomentBound, declared.serving.IoFault.IoFault, declared.overseeing.ReplySummary.ReplySummary}
use Rattle.http_routes.specs.declared.request.Request.TheVariants as request

module _ {S C : Type 0} (v : Sight S C) (causes : Causes S) (old new : DeskState S) where
  module _ (at : ℕ) (late : last_moment < at) (random : List ℕ) (remaining : Option (List ℕ)) where
    -- by what a request is answered
    responds_late : (q : Request) (result : Result Reply _) → Responds v causes at random old q result new → new ≡ old
    responds_late q result r = grind arith

    -- by the answer to what was asked
    answer_late : (result : Result Reply _) → HasAnswer v causes at random remaining old new result → new ≡ old
    answer_late result a = responds_late a.request result a.responds

    -- where it has no reply
    fails_late : (why : Unanswered) → Fails v causes at random remaining old new why → new ≡ old
    fails_late why f = grind (arith, answer_late, Err, Ok)

    -- where the connection failed
    cut_late : (base : List ℕ) (before after : Option (List ℕ)) (form : ReplyForm) (why : Option Unanswered)
        → CutOffBy v causes at random base remaining before after old new form why → new ≡ old
    cut_late base before after form why s = grind (arith, None, answer_late, Ok, Some, fails_late)

    -- where it was served
    served_late : (base : List ℕ) (before after : Option (List ℕ)) (form : ReplyForm) (why : Option Unanswered) (written : Bool) (summary : Option ReplySummary)
        → ServesBy v causes at random base remaining before after old new form why written summary → new ≡ old
    served_late base before after form why written summary s = grind (arith, None, answer_late, Ok, Some, fails_late)

    -- whatever became of it
    once_late : (base : List ℕ) (before after : Option (List ℕ)) (served : Result Served IoFault)
        → MatchResult served (λ s. Serves v causes at random base remaining before after old new s)
        (λ e. Breaks v causes at random base remaining before after old new e)
        → new ≡ old
    once_late base before after served s = grind (arith, Ok, served_late, Err, cut_late)

  -- a request that was served so late
  pub late_changes_nothing : (at : ℕ) (remaining before after : Option (List ℕ)) (served : Result Served IoFault) → last_moment < at
      → ServesAt v causes at remaining before after old new served → new ≡ old
  late_changes_nothing at remaining before after served late s = grind (arith, once_late)

-- where a bound refuses a moment, the call is made so late
pub refused_late : (bound : MomentBound) (at : ℕ) → admits bound.latest bound.step at ≡ false → last_moment < moment_for bound at
refused_late bound at is = rw is (omega arith)
