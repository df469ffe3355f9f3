-- What is seen of a run of calls.
use Rattle.std.specs.Prelude.{◌≡◌, List, [], ◌∷◌, ◌++◌, length, take, drop, false, Option, Some, None, Err}
use Rattle.desk_model.specs.declared.{call.Call.Call, reply.Reply.Reply}
use Rattle.store_api.specs.Sight.{Sight}
use Rattle.desk.specs.{Faults.closes, Runs.RunsAs, declared.fault.DeskFault.DeskFault}
use Rattle.desk.specs.Seen.{Place, runs, Seen, seen_fault, seen_stop, place_after, Told, told_by, IsSeen}

-- these replies to these calls, the latest first
abbrev pub told_in_turn : List Call → List Reply → List Told
told_in_turn (call ∷ calls) (reply ∷ replies) = told_in_turn calls replies ++ record { call = call; reply = reply } ∷ []
told_in_turn _ _ = []

module _ {S C : Type 0} (v : Sight S C) where
  -- the fault of a call may be seen next, or a stop with whatever it leaves
  pub record IsSeenFault (first : Place S C) (seen : List (Seen S C)) (call : Call) (why : DeskFault) (new : S) : Type 0 where
    pub goes_on : closes why ≡ false → IsSeen v first (seen_fault call why new ∷ seen)
    pub stops : (c : C) → v.leaves new c → IsSeen v first (seen_stop call (Err why) new c ∷ seen)

  -- the end of a run: all calls were answered, or the next one has a fault
  abbrev pub IsSeenEnd : Place S C → List (Seen S C) → S → List Call → Option DeskFault → S → Type 0
  IsSeenEnd first seen mid rest None new = (rest ≡ []) × (new ≡ mid)
  IsSeenEnd first seen mid [] (Some why) new = ⊥
  IsSeenEnd first seen mid (call ∷ rest) (Some why) new = IsSeenFault first seen call why new

  -- the replies of a run may be seen, one after the other, and then its end
  pub record IsSeenRun (first : Place S C) (earlier : List (Seen S C)) (calls : List Call) (replies : List Reply) (why : Option DeskFault)
      (new : S) : Type 0 where
    pub seen : List (Seen S C)
    pub mid : S
    pub is : IsSeen v first (seen ++ earlier)
    pub at : place_after first (seen ++ earlier) ≡ runs mid
    pub told : told_by seen ≡ told_in_turn (take (length replies) calls) replies
    pub ends : IsSeenEnd first (seen ++ earlier) mid (drop (length replies) calls) why new

  -- what a run promises may be seen
  abbrev pub RunsAreSeen : Type 0
  RunsAreSeen =
      (first : Place S C) (earlier : List (Seen S C)) (old new : S) (calls : List Call) (replies : List Reply) (why : Option DeskFault)
      → place_after first earlier ≡ runs old → IsSeen v first earlier → v.is_honest new → RunsAs v old calls replies why new
      → IsSeenRun first earlier calls replies why new
