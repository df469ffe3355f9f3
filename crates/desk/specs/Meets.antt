-- The exits of a call to a desk, open or closed.
use Rattle.std.specs.Prelude.{◌≡◌, ◌⊎◌, true, false, Result, Err}
use Rattle.desk_model.specs.declared.{call.Call.Call, reply.Reply.Reply}
use Rattle.store_api.specs.Sight.{Sight}
use Rattle.desk.specs.{Answers.Answers, Answers.is_closed_after, State.DeskState, declared.fault.DeskFault.DeskFault}
use Rattle.desk.specs.declared.fault.DeskFault.TheVariants as deskfault

-- a closed desk answers that it is to be opened again, and is untouched
abbrev pub RefusesClosed : {S : Type 0} → DeskState S → DeskState S → Result Reply DeskFault → Type 0
RefusesClosed old new result = (result ≡ Err deskfault.Reopen) × (new ≡ old)

module _ {S C : Type 0} (v : Sight S C) where
  -- an open desk answers a call, and is closed after some faults
  pub record AnswersOpen (call : Call) (old new : DeskState S) (result : Result Reply DeskFault) : Type 0 where
    pub answers : Answers v call old.store new.store result
    pub flag : new.is_closed ≡ is_closed_after result

  -- how a desk answers a call, open or closed
  pub record Meets (call : Call) (old new : DeskState S) (result : Result Reply DeskFault) : Type 0 where
    pub when_open : old.is_closed ≡ false → AnswersOpen call old new result
    pub when_closed : old.is_closed ≡ true → RefusesClosed old new result
    pub policy : new.policy ≡ old.policy

  -- a call was answered
  pub record AnswersOne (old new : DeskState S) : Type 0 where
    pub call : Call
    pub result : Result Reply DeskFault
    pub meets : Meets call old new result

  -- nothing was done, or a call was answered
  abbrev pub ActsOnce : DeskState S → DeskState S → Type 0
  ActsOnce old new = (new ≡ old) ⊎ AnswersOne old new
