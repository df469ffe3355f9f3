-- What an office asks, answered by a desk.
use Rattle.std.specs.Prelude.{◌≡◌, ℕ, [], Option, Some, None, Result, Ok, Err}
use Rattle.desk_model.specs.declared.call.Ask.TheVariants as ask
use Rattle.desk_model.specs.declared.{call.Call.Call, call.OfficeAsk.OfficeAsk, refusal.Refusal.Refusal, reply.Body.Body, reply.Reply.Reply}
use Rattle.desk_model.specs.declared.reply.Body.TheVariants as body
use Rattle.store_api.specs.Sight.{Sight}
use Rattle.desk.specs.{Answers.Answers, declared.fault.DeskFault.DeskFault}

-- the call by which an office asks something, with no random bytes
abbrev pub office_call : ℕ → OfficeAsk → Call
office_call at what = record { at = at; random = []; ask = ask.Office what }

-- the refusal that a body gives
abbrev pub refusal_in : Body → Option Refusal
refusal_in (body.Problem problem) = Some problem.refusal
refusal_in _ = None

module _ {S C : Type 0} (v : Sight S C) where
  -- an open desk answers what an office asks, and the reply has this refusal or none
  abbrev pub AnswersOffice : ℕ → OfficeAsk → (old new : S) → Result (Option Refusal) DeskFault → Type 0
  AnswersOffice at what old new (Ok refusal) =
      (reply : Reply) × Answers v (office_call at what) old new (Ok reply) × (refusal ≡ refusal_in reply.body)
  AnswersOffice at what old new (Err why) = Answers v (office_call at what) old new (Err why)
