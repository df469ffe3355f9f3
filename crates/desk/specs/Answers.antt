-- The exits of a call to a desk, by every legal history whose picture the store has, a stop leaving that alone.
use Rattle.std.specs.Prelude.{◌≡◌, ◌⊎◌, Bool, false, None, Result, Ok, Err, IfErr}
use Rattle.desk_model.specs.{Entry.History, Legal.Legal, Tables.picture, declared.call.Call.Call, declared.reply.Reply.Reply, Decide.decide, Decide.after}
use Rattle.desk_model.specs.{Run.fault, Run.IsFormedCall}
use Rattle.store_api.specs.Sight.{Sight, Keeps, Unchanged}
use Rattle.desk.specs.{Faults.IsFault, Faults.closes, declared.fault.DeskFault.DeskFault}
use Rattle.desk.specs.declared.fault.DeskFault.TheVariants as deskfault

module _ {S C : Type 0} (v : Sight S C) where
  -- the call has no fault, the reply is the one decided, and the store has the tables with the entries, which a stop leaves alone
  pub record IsAnswered (F : History) (call : Call) (reply : Reply) (new : S) : Type 0 where
    pub faultless : fault F call ≡ None
    pub decided : reply ≡ (decide F call).reply
    pub stays_legal : Legal (after F call)
    pub keeps : Keeps v new (picture (after F call))

  -- the call is not made: the store has the tables before, which a stop leaves alone, and the fault is the call's own or out
  -- of memory
  pub record IsDeclined (F : History) (call : Call) (why : DeskFault) (new : S) : Type 0 where
    pub cause : IsFault why (fault F call)
    pub keeps : Keeps v new (picture F)

  -- the content has the tables before, or those with the entries, where the call has no fault
  abbrev pub IsEither : History → Call → C → Type 0
  IsEither F call c = v.has c (picture F) ⊎ ((fault F call ≡ None) × v.has c (picture (after F call)))

  -- a stop leaves one of the two
  abbrev pub IsBroken : History → Call → S → Type 0
  IsBroken F call new = (c : C) → v.leaves new c → IsEither F call c

  -- the exit by a fault
  abbrev pub ExitsBy : History → Call → DeskFault → S → Type 0
  ExitsBy F call deskfault.Device new = IsBroken F call new
  ExitsBy F call deskfault.Reopen new = IsBroken F call new
  ExitsBy F call why new = IsDeclined F call why new

  -- the exit of a call
  abbrev pub Exits : History → Call → Result Reply DeskFault → S → Type 0
  Exits F call (Ok reply) new = IsAnswered F call reply new
  Exits F call (Err why) new = ExitsBy F call why new

  -- an open desk answers a call so; whatever tables the store had, it has them still where the call is declined
  pub record Answers (call : Call) (old new : S) (result : Result Reply DeskFault) : Type 0 where
    pub formed : IsFormedCall call
    pub honest : v.is_honest new → v.is_honest old
    pub unchanged : IfErr result (λ why. closes why ≡ false → Unchanged v old new)
    pub exit : v.is_honest new → (F : History) → Legal F → Keeps v old (picture F) → Exits F call result new

-- whether the desk is closed after an answer
abbrev pub is_closed_after : {R : Type 0} → Result R DeskFault → Bool
is_closed_after (Ok reply) = false
is_closed_after (Err why) = closes why
