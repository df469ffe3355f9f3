-- What is done to a desk, call after call, may be seen.
use Rattle.std.proofs.Common.{◌≡◌, ◌∙◌, List, [], ◌∷◌, ◌++◌, Bool, true, false, Result, Ok, Err, refl, subst, sym, inl, inr, rules}
use Rattle.desk_model.specs.declared.{call.Call.Call, reply.Reply.Reply}
use Rattle.store_api.specs.Sight.{Sight}
use Rattle.desk.specs.Seen.{Place, runs, Seen, seen_reply, seen_fault, seen_stop, place_after, IsSeen}
use Rattle.desk.specs.SeenDesks.{AreSeen, IsSeenOn, IsSeenTo, runs_on, stops}
use Rattle.desk.specs.{Faults.closes, State.DeskState, declared.fault.DeskFault.DeskFault, Meets.ActsOnce, Meets.Meets}
use Rattle.desk.proofs.Seeing.{seen_next}

module _ {S C : Type 0} (v : Sight S C) where
  -- ---- an honest end begins honest

  -- a closed desk is untouched, and an open one was honest before
  honest_answer : (call : Call) (old new : DeskState S) (result : Result Reply DeskFault) (b : Bool) → old.is_closed ≡ b
      → Meets v call old new result → v.is_honest new.store → v.is_honest old.store
  honest_answer call old new result true e a h = subst (λ desk. v.is_honest desk.store) (a.when_closed e).1 h
  honest_answer call old new result false e a h = (a.when_open e).answers.honest h

  -- whatever was done
  honest_once : (old new : DeskState S) → ActsOnce v old new → v.is_honest new.store → v.is_honest old.store
  honest_once old new (inl same) h = subst (λ desk. v.is_honest desk.store) same h
  honest_once old new (inr a) h = honest_answer a.call old new a.result old.is_closed refl a.meets h

  module _ (first : Place S C) (earlier : List (Seen S C)) where
    -- ---- one call more

    -- nothing was done
    seen_same : (old new : DeskState S) → new ≡ old → AreSeen v first earlier old → AreSeen v first earlier new
    seen_same old new same seen = subst (AreSeen v first earlier) (sym same) seen

    -- a fault, by whether it closes the desk
    seen_faulted : (call : Call) (old new : DeskState S) (why : DeskFault) (b : Bool) → closes why ≡ b → old.is_closed ≡ false
        → Meets v call old new (Err why) → v.is_honest new.store → (seen : List (Seen S C)) → IsSeen v first (seen ++ earlier)
        → place_after first (seen ++ earlier) ≡ runs old.store → AreSeen v first earlier new
    seen_faulted call old new why false e opened a h seen is at =
        record {
          seen = seen_fault call why new.store ∷ seen;
          is =
              seen_next v first (seen ++ earlier) old.store (seen_fault call why new.store) at
              (record { exits = record { honest = h; answers = (a.when_open opened).answers }; opened = e }) is;
          to = runs_on ((a.when_open opened).flag ∙ e) refl;
        }
    seen_faulted call old new why true e opened a h seen is at =
        record {
          seen = seen;
          is = is;
          to =
              stops ((a.when_open opened).flag ∙ e) call why
              (λ c left. seen_next v first (seen ++ earlier) old.store (seen_stop call (Err why) new.store c) at
              (record { exits = record { honest = h; answers = (a.when_open opened).answers }; left = left }) is);
        }

    -- the answer of an open desk
    seen_answer : (call : Call) (old new : DeskState S) (result : Result Reply DeskFault) → old.is_closed ≡ false
        → Meets v call old new result → v.is_honest new.store → (seen : List (Seen S C)) → IsSeen v first (seen ++ earlier)
        → place_after first (seen ++ earlier) ≡ runs old.store → AreSeen v first earlier new
    seen_answer call old new (Ok reply) opened a h seen is at =
        record {
          seen = seen_reply call reply new.store ∷ seen;
          is =
              seen_next v first (seen ++ earlier) old.store (seen_reply call reply new.store) at
              (record { exits = record { honest = h; answers = (a.when_open opened).answers }; opened = refl }) is;
          to = runs_on (a.when_open opened).flag refl;
        }
    seen_answer call old new (Err why) opened a h seen is at = seen_faulted call old new why (closes why) refl opened a h seen is at

    -- the answer of a desk that runs on, or is closed
    seen_after : (call : Call) (old new : DeskState S) (result : Result Reply DeskFault) → Meets v call old new result
        → v.is_honest new.store → (seen : List (Seen S C)) → IsSeen v first (seen ++ earlier) → IsSeenTo v first (seen ++ earlier) old
        → AreSeen v first earlier new
    seen_after call old new result a h seen is (runs_on opened at) = seen_answer call old new result opened a h seen is at
    seen_after call old new result a h seen is (stops closed last why left) =
        seen_same old new (a.when_closed closed).1 (record { seen = seen; is = is; to = stops closed last why left })

    -- whatever was done
    seen_once : (old new : DeskState S) → ActsOnce v old new → v.is_honest new.store → AreSeen v first earlier old → AreSeen v first earlier new
    seen_once old new (inl same) h seen = seen_same old new same seen
    seen_once old new (inr a) h seen = seen_after a.call old new a.result a.meets h seen.seen seen.is seen.to

  -- ---- from where it was open

  -- nothing was done
  pub seen_untouched : (old new : DeskState S) → new ≡ old → IsSeenOn v old new
  seen_untouched old new same =
      λ first earlier opened at is h. seen_same first earlier old new same (record { seen = []; is = is; to = runs_on opened at })

  -- after what was seen, one call more
  pub seen_once_more : (old mid new : DeskState S) → IsSeenOn v old mid → ActsOnce v mid new → IsSeenOn v old new
  seen_once_more old mid new before does =
      λ first earlier opened at is h. seen_once first earlier mid new does h (before first earlier opened at is (honest_once mid new does h))

-- and the policy is the same
pub same_policy : {S C : Type 0} (v : Sight S C) (old new : DeskState S) → ActsOnce v old new → new.policy ≡ old.policy
same_policy v old new h = search rules
