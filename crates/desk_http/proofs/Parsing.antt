-- From what was read to what is served.
use Rattle.std.proofs.Common.{◌≡◌, ℕ, List, Option, Some, None, Result, Ok, arith}
use Rattle.std.specs.{Prelude.IfSome}
use Rattle.desk_model.specs.declared.reply.Reply.{Reply}
use Rattle.store_api.specs.{Sight.Sight, Storing.Causes}
use Rattle.desk.specs.{State.DeskState, declared.fault.DeskFault.DeskFault}
use Rattle.http_routes.specs.declared.request.Request.{Request}
use Rattle.http_wire.specs.{Spelled.IsReplyForm, Spelled.Spells, declared.call.ParsedRequest.ParsedRequest}
use Rattle.desk_http.specs.Serving.{Fails, HasAnswer, IsParsedOf, LacksText, ReadAnswer}
use Rattle.desk_http.specs.declared.serving.Unanswered.{Unanswered}

-- the request that was read is the input's
spelled : (remaining : Option (List ℕ)) (h : ParsedRequest) (q : Request) → IsParsedOf remaining h → h.request ≡ Ok q
    → IfSome remaining (λ input. Spells input q)
spelled remaining h q is e = grind (arith, None, Some)

-- and so is how its reply is written
pub form_parsed : (remaining : Option (List ℕ)) (h : ParsedRequest) → IsParsedOf remaining h → IfSome remaining (λ input. IsReplyForm input h.form)
form_parsed remaining h is = grind (arith, None, Some)

module _ {S C : Type 0} (v : Sight S C) (causes : Causes S) (at : ℕ) (random : List ℕ) (remaining : Option (List ℕ)) (h : ParsedRequest) where
  -- the answer to what was read is the answer to the input
  pub answered : (old new : DeskState S) (result : Result Reply DeskFault) → IsParsedOf remaining h
      → ReadAnswer v causes at random h.request old new result → HasAnswer v causes at random remaining old new result
  answered old new result is a = record { request = a.request; spelled = spelled remaining h a.request is a.is_read; responds = a.responds }

  -- why what was read did not have its reply is why the input did not
  pub fails : (old new : DeskState S) (why : Unanswered) → IsParsedOf remaining h
      → LacksText v causes at random h.request why old new → Fails v causes at random remaining old new why
  fails old new why is l = grind (arith, answered)
