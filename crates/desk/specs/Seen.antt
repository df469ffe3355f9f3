-- What may be seen of a desk over time, and that it is a life.
use Rattle.std.specs.Prelude.{ℕ, ◌≡◌, ◌⊎◌, List, [], ◌∷◌, ◌++◌, Bool, false, Result, Ok, Err, IsTrue}
use Rattle.desk_model.specs.{Entry.History, History.terms, Legal.Legal, Tables.picture, Decide.decide, declared.call.Call.Call, declared.reply.Reply.Reply}
use Rattle.desk_model.specs.Life.{Event, Replied, Faulted, Stopped, Reopened, IsLife, history, is_running, made_by, Passed, EndedRowsStay}
use Rattle.store_api.specs.Sight.{Sight, Keeps, Opens, FailsToOpen}
use Rattle.desk.specs.{Answers.Answers, Answers.is_closed_after, declared.fault.DeskFault.DeskFault}

-- a desk runs over a store, or none runs and there is what a stop left
pub data Place (S C : Type 0) : Type 0 where
  runs : S → Place S C
  rests : C → Place S C

-- what is seen, each with the store as it then stands, or what was left
pub data Seen (S C : Type 0) : Type 0 where
  -- the call was answered
  seen_reply : Call → Reply → S → Seen S C
  -- the call was answered by a fault after which the desk goes on
  seen_fault : Call → DeskFault → S → Seen S C
  -- a stop within the call, or a fault that closed the desk: the exit of the call, and what a stop then left
  seen_stop : Call → Result Reply DeskFault → S → C → Seen S C
  -- a stop before a call, or the desk was closed
  seen_end : C → Seen S C
  -- what was left was opened
  seen_open : S → Seen S C
  -- what was left was not opened
  seen_failure : C → Seen S C

-- where it is after the latest
abbrev pub place_after_one : {S C : Type 0} → Seen S C → Place S C
place_after_one (seen_reply call reply new) = runs new
place_after_one (seen_fault call why new) = runs new
place_after_one (seen_stop call exit new c) = rests c
place_after_one (seen_end c) = rests c
place_after_one (seen_open new) = runs new
place_after_one (seen_failure c) = rests c

-- where a desk is after all that was seen, the latest first
abbrev pub place_after : {S C : Type 0} → Place S C → List (Seen S C) → Place S C
place_after first [] = first
place_after first (x ∷ earlier) = place_after_one x

-- a reply that was given to a call
pub record Told : Type 0 where
  pub call : Call
  pub reply : Reply

-- the replies that were given, the latest first: those that were seen, and those of a life
abbrev pub told_by : {S C : Type 0} → List (Seen S C) → List Told
told_by [] = []
told_by (seen_reply call reply new ∷ earlier) = record { call = call; reply = reply } ∷ told_by earlier
told_by (seen_fault call why new ∷ earlier) = told_by earlier
told_by (seen_stop call exit new c ∷ earlier) = told_by earlier
told_by (seen_end c ∷ earlier) = told_by earlier
told_by (seen_open new ∷ earlier) = told_by earlier
told_by (seen_failure c ∷ earlier) = told_by earlier

-- and those of a life
abbrev pub replied : List Event → List Told
replied [] = []
replied (Replied call reply ∷ earlier) = record { call = call; reply = reply } ∷ replied earlier
replied (Faulted call ∷ earlier) = replied earlier
replied (Stopped call kept ∷ earlier) = replied earlier
replied (Reopened ∷ earlier) = replied earlier

-- the calls, the latest first, are those that were answered and some of those that a stop cut off
abbrev pub AreKeptOf : {S C : Type 0} → List (Seen S C) → List Call → Type 0
AreKeptOf [] calls = calls ≡ []
AreKeptOf (seen_reply call reply new ∷ earlier) calls = (before : List Call) × (calls ≡ call ∷ before) × AreKeptOf earlier before
AreKeptOf (seen_fault call why new ∷ earlier) calls = AreKeptOf earlier calls
AreKeptOf (seen_stop call exit new c ∷ earlier) calls =
    AreKeptOf earlier calls ⊎ ((before : List Call) × (calls ≡ call ∷ before) × AreKeptOf earlier before)
AreKeptOf (seen_end c ∷ earlier) calls = AreKeptOf earlier calls
AreKeptOf (seen_open new ∷ earlier) calls = AreKeptOf earlier calls
AreKeptOf (seen_failure c ∷ earlier) calls = AreKeptOf earlier calls

module _ {S C : Type 0} (v : Sight S C) where
  -- an exit of a call to an open desk, on an honest disk
  pub record IsExit (call : Call) (old new : S) (exit : Result Reply DeskFault) : Type 0 where
    pub honest : v.is_honest new
    pub answers : Answers v call old new exit

  -- the same, where a stop then left this content
  pub record IsExitOfStop (call : Call) (old new : S) (exit : Result Reply DeskFault) (c : C) : Type 0 where
    pub exits : IsExit call old new exit
    pub left : v.leaves new c

  -- the same, where the desk goes on
  pub record IsExitInPlace (call : Call) (old new : S) (exit : Result Reply DeskFault) : Type 0 where
    pub exits : IsExit call old new exit
    pub opened : is_closed_after exit ≡ false

  -- what may be seen of a desk that runs, and where none runs
  abbrev pub MaySeeOn : Seen S C → S → Type 0
  MaySeeOn (seen_reply call reply new) old = IsExitInPlace call old new (Ok reply)
  MaySeeOn (seen_fault call why new) old = IsExitInPlace call old new (Err why)
  MaySeeOn (seen_stop call exit new c) old = IsExitOfStop call old new exit c
  MaySeeOn (seen_end c) old = v.leaves old c
  MaySeeOn (seen_open new) old = ⊥
  MaySeeOn (seen_failure c) old = ⊥

  -- and where none runs
  abbrev pub MaySeeOff : Seen S C → C → Type 0
  MaySeeOff (seen_open new) old = Opens v old new
  MaySeeOff (seen_failure c) old = FailsToOpen v old c
  MaySeeOff (seen_reply call reply new) old = ⊥
  MaySeeOff (seen_fault call why new) old = ⊥
  MaySeeOff (seen_stop call exit new c) old = ⊥
  MaySeeOff (seen_end c) old = ⊥

  -- what may be seen next
  abbrev pub MaySee : Seen S C → Place S C → Type 0
  MaySee x (runs old) = MaySeeOn x old
  MaySee x (rests old) = MaySeeOff x old

  -- each thing that was seen might be seen where the desk then was
  abbrev pub IsSeen : Place S C → List (Seen S C) → Type 0
  IsSeen first [] = Unit {0}
  IsSeen first (x ∷ earlier) = MaySee x (place_after first earlier) × IsSeen first earlier

  -- the store, or what was left, has the picture of the history, and a stop leaves it alone
  abbrev pub IsAt : History → Place S C → Type 0
  IsAt F (runs s) = Keeps v s (picture F)
  IsAt F (rests c) = v.has c (picture F)

  -- a desk that runs is not stopped
  abbrev pub RunsIn : Place S C → List Event → Type 0
  RunsIn (runs s) life = IsTrue (is_running life)
  RunsIn (rests c) life = Unit {0}

  -- what was seen, event by event: at each, the place is at the history of the life so far
  abbrev pub Follows : History → List (Seen S C) → List Event → Type 0
  Follows start [] life = life ≡ []
  Follows start (seen_reply call reply new ∷ earlier) life =
      IsAt (history start life) (runs new) × ((before : List Event) × (life ≡ Replied call reply ∷ before) × Follows start earlier before)
  Follows start (seen_fault call why new ∷ earlier) life =
      IsAt (history start life) (runs new) × ((before : List Event) × (life ≡ Faulted call ∷ before) × Follows start earlier before)
  Follows start (seen_stop call exit new c ∷ earlier) life =
      IsAt (history start life) (rests c)
      × ((kept : Bool) × ((before : List Event) × (life ≡ Stopped call kept ∷ before) × Follows start earlier before))
  Follows start (seen_end c ∷ earlier) life = IsAt (history start life) (rests c) × Follows start earlier life
  Follows start (seen_open new ∷ earlier) life =
      IsAt (history start life) (runs new) × ((before : List Event) × (life ≡ Reopened ∷ before) × Follows start earlier before)
  Follows start (seen_failure c ∷ earlier) life = IsAt (history start life) (rests c) × Follows start earlier life

  -- the events of a life whose history's picture is there at the end, with the replies that were seen
  pub record IsLived (start : History) (first : Place S C) (seen : List (Seen S C)) : Type 0 where
    pub life : List Event
    pub lives : IsLife start life
    pub at : IsAt (history start life) (place_after first seen)
    pub running : RunsIn (place_after first seen) life
    pub follows : Follows start seen life
    pub told : replied life ≡ told_by seen

  -- whatever is seen, from a desk with the tables of any legal history on, is a life
  abbrev pub SeenIsLived : Type 0
  SeenIsLived =
      (start : History) (first : Place S C) (seen : List (Seen S C)) → Legal start → IsAt start first → IsSeen first seen
      → IsLived start first seen

  -- ---- the headline, of what is seen

  -- what is there in the end is the picture of the history at the start with the entries of some calls, each call's whole: of
  -- those that were answered and of some that a stop cut off, and of no other; the policy is the one that it was made with
  pub record IsOfCalls (start : History) (first : Place S C) (seen : List (Seen S C)) : Type 0 where
    pub calls : List Call
    pub kept : AreKeptOf seen calls
    pub legal : Legal (made_by start calls)
    pub at : IsAt (made_by start calls) (place_after first seen)
    pub policy : terms (made_by start calls) ≡ terms start

  -- whatever is seen, it is so of the end
  abbrev pub SeenIsOfCalls : Type 0
  SeenIsOfCalls =
      (start : History) (first : Place S C) (seen : List (Seen S C)) → Legal start → IsAt start first → IsSeen first seen → IsOfCalls start first seen

  -- a reply that was given is the one decided on what the calls before it made; the store then had these and its call, and
  -- what is there in the end is made of these and its call first, and of calls that came later
  pub record IsKeptToTheEnd (start : History) (first : Place S C) (later earlier : List (Seen S C)) (call : Call) (reply : Reply) (new : S) : Type 0 where
    pub before : List Call
    pub since : List Call
    pub kept_before : AreKeptOf earlier before
    pub decided : reply ≡ (decide (made_by start before) call).reply
    pub then : Keeps v new (picture (made_by start (call ∷ before)))
    pub kept : AreKeptOf (later ++ seen_reply call reply new ∷ earlier) (since ++ call ∷ before)
    pub legal : Legal (made_by start (since ++ call ∷ before))
    pub at_end : IsAt (made_by start (since ++ call ∷ before)) (place_after first (later ++ seen_reply call reply new ∷ earlier))

  -- whatever is seen before a reply and after it
  abbrev pub RepliesAreKept : Type 0
  RepliesAreKept =
      (start : History) (first : Place S C) (later earlier : List (Seen S C)) (call : Call) (reply : Reply) (new : S)
      → Legal start → IsAt start first → IsSeen first (later ++ seen_reply call reply new ∷ earlier)
      → IsKeptToTheEnd start first later earlier call reply new

  -- the nonce of a request that was answered passes in no later one that is answered
  pub record NonceServesOnce (first : Place S C) (middle earlier : List (Seen S C)) (one two : Call) (reply : Reply) (new : S) : Type 0 where
    pub before_one : History
    pub before_two : History
    pub at_one : IsAt before_one (place_after first earlier)
    pub at_two : IsAt before_two (place_after first (middle ++ seen_reply one reply new ∷ earlier))
    pub once : (text : List ℕ) → Passed before_one one text → Passed before_two two text → ⊥

  -- whatever is seen before, between and after two replies
  abbrev pub NoncesSeenOnce : Type 0
  NoncesSeenOnce =
      (start : History) (first : Place S C) (later middle earlier : List (Seen S C)) (one two : Call) (reply other : Reply) (new newer : S)
      → Legal start → IsAt start first → IsSeen first (later ++ (seen_reply two other newer ∷ (middle ++ (seen_reply one reply new ∷ earlier))))
      → NonceServesOnce first middle earlier one two reply new

  -- what has ended keeps its row from any place on
  pub record EndedIsKept (first : Place S C) (later earlier : List (Seen S C)) : Type 0 where
    pub before : History
    pub end : History
    pub at_before : IsAt before (place_after first earlier)
    pub at_end : IsAt end (place_after first (later ++ earlier))
    pub rows : EndedRowsStay (picture before) (picture end)

  -- whatever is seen before and after
  abbrev pub EndedSeenStays : Type 0
  EndedSeenStays =
      (start : History) (first : Place S C) (later earlier : List (Seen S C))
      → Legal start → IsAt start first → IsSeen first (later ++ earlier)
      → EndedIsKept first later earlier
