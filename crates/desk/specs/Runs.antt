-- The exits of a run of calls.
use Rattle.std.specs.Prelude.{◌≡◌, ◌⊎◌, ◌<◌, Bool, false, List, [], ◌∷◌, length, take, drop, Option, Some, None, Ok, Err}
use Rattle.desk_model.specs.{Entry.History, Legal.Legal, Limits.last_moment, Tables.picture, Run.run, declared.call.Call.Call, declared.reply.Reply.Reply}
use Rattle.store_api.specs.{Sight.Sight, Sight.Keeps, Storing.Causes}
use Rattle.desk.specs.{Answers.Answers, Answers.ExitsBy, Causes.IsCaused, Faults.closes, declared.fault.DeskFault.DeskFault}
use Rattle.desk.specs.declared.fault.DeskFault.TheVariants as deskfault

-- a run of the model's ends here, too: with the last call, or with a fault that the model knows
abbrev pub IsOfModel : Option DeskFault → Type 0
IsOfModel (Some deskfault.Memory) = ⊥
IsOfModel (Some deskfault.Device) = ⊥
IsOfModel (Some deskfault.Reopen) = ⊥
IsOfModel _ = Unit {0}

-- whether the desk is closed behind a run
abbrev pub is_closed_behind : Option DeskFault → Bool
is_closed_behind None = false
is_closed_behind (Some why) = closes why

-- the next call is past the last moment
abbrev pub IsLate : List Call → Type 0
IsLate [] = ⊥
IsLate (call ∷ rest) = last_moment < call.at

-- the fault of the next call is that it is past the last moment exactly where it is, unless memory was refused before
pub record TellsLate (rest : List Call) (why : DeskFault) : Type 0 where
  pub late : why ≡ deskfault.Moment → IsLate rest
  pub told : IsLate rest → (why ≡ deskfault.Moment) ⊎ (why ≡ deskfault.Memory)

module _ {S C : Type 0} (v : Sight S C) where
  -- these calls have these replies, one after the other
  abbrev pub AnswersAll : S → List Call → List Reply → S → Type 0
  AnswersAll old [] [] new = new ≡ old
  AnswersAll old (call ∷ calls) (reply ∷ replies) new = (between : S) × Answers v call old between (Ok reply) × AnswersAll between calls replies new
  AnswersAll old _ _ new = ⊥

  -- a run ends with its last call, or with a fault of the next
  abbrev pub EndsBy : S → List Call → Option DeskFault → S → Type 0
  EndsBy mid rest None new = (rest ≡ []) × (new ≡ mid)
  EndsBy mid [] (Some why) new = ⊥
  EndsBy mid (call ∷ rest) (Some why) new = Answers v call mid new (Err why)

  -- a run as the chain of its answers
  abbrev pub RunsAs : S → List Call → List Reply → Option DeskFault → S → Type 0
  RunsAs old calls replies why new = (mid : S) × AnswersAll old (take (length replies) calls) replies mid × EndsBy mid (drop (length replies) calls) why new

  -- behind the calls that were answered, a run ended by a fault that comes so
  pub record EndsCaused (causes : Causes S) (old new : S) (calls : List Call) (replies : List Reply) (why : DeskFault) : Type 0 where
    pub from : S
    pub answered : AnswersAll old (take (length replies) calls) replies from
    pub cause : IsCaused v causes from new why

  -- ---- by histories

  -- the exit of a run: all calls were answered, or as the next call leaves it
  abbrev pub ExitsRun : History → List Call → Option DeskFault → S → Type 0
  ExitsRun G rest None new = (rest ≡ []) × Keeps v new (picture G)
  ExitsRun G [] (Some why) new = ⊥
  ExitsRun G (call ∷ rest) (Some why) new = ExitsBy v G call why new

  -- the replies are the model's to the calls that were answered, the history after these is legal, and the run ends from
  -- there; it is the model's run of all calls, unless memory was refused or the store failed
  pub record IsRun (F : History) (calls : List Call) (replies : List Reply) (why : Option DeskFault) (new : S) : Type 0 where
    pub answered : replies ≡ (run F (take (length replies) calls)).replies
    pub legal : Legal (run F (take (length replies) calls)).history
    pub exit : ExitsRun (run F (take (length replies) calls)).history (drop (length replies) calls) why new
    pub whole : IsOfModel why → run F (take (length replies) calls) ≡ run F calls

  -- by every legal history whose picture the store has, a stop leaving that alone
  pub record Runs (calls : List Call) (old new : S) (replies : List Reply) (why : Option DeskFault) : Type 0 where
    pub honest : v.is_honest new → v.is_honest old
    pub exit : v.is_honest new → (F : History) → Legal F → Keeps v old (picture F) → IsRun F calls replies why new
