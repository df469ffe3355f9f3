-- What is seen of a desk that is asked call after call.
use Rattle.std.specs.Prelude.{◌≡◌, true, false, List, ◌∷◌, ◌++◌, Err}
use Rattle.desk_model.specs.declared.call.Call.{Call}
use Rattle.store_api.specs.Sight.{Sight}
use Rattle.desk.specs.{Seen.Place, Seen.runs, Seen.Seen, Seen.seen_stop, Seen.place_after, Seen.IsSeen, State.DeskState, declared.fault.DeskFault.DeskFault}

module _ {S C : Type 0} (v : Sight S C) where
  -- after all that was seen the desk runs on; or it is closed, and what may be seen next is a stop, with whatever it leaves
  pub data IsSeenTo (first : Place S C) (seen : List (Seen S C)) (new : DeskState S) : Type 0 where
    runs_on : new.is_closed ≡ false → place_after first seen ≡ runs new.store → IsSeenTo first seen new
    stops : new.is_closed ≡ true → (call : Call) (why : DeskFault)
        → ((c : C) → v.leaves new.store c → IsSeen v first (seen_stop call (Err why) new.store c ∷ seen)) → IsSeenTo first seen new

  -- what is seen of the calls, after what was seen before
  pub record AreSeen (first : Place S C) (earlier : List (Seen S C)) (new : DeskState S) : Type 0 where
    pub seen : List (Seen S C)
    pub is : IsSeen v first (seen ++ earlier)
    pub to : IsSeenTo first (seen ++ earlier) new

  -- whatever was seen before of a desk that is open, what is done to it may be seen next, on an honest disk
  abbrev pub IsSeenOn : DeskState S → DeskState S → Type 0
  IsSeenOn old new =
      (first : Place S C) (earlier : List (Seen S C)) → old.is_closed ≡ false → place_after first earlier ≡ runs old.store
      → IsSeen v first earlier → v.is_honest new.store → AreSeen first earlier new
