-- What a run promises may be seen.
use Rattle.std.proofs.Common.{◌≡◌, List, [], ◌∷◌, ◌++◌, length, take, drop, refl, sym, ap, subst, ◌∙◌, append_assoc, None, Some, Option, Ok, Err}
use Rattle.desk_model.specs.declared.{call.Call.Call, reply.Reply.Reply}
use Rattle.store_api.specs.Sight.{Sight}
use Rattle.desk.specs.Seen.{Place, runs, Seen, seen_reply, seen_fault, seen_stop, place_after, told_by, IsExitInPlace, MaySee, IsSeen}
use Rattle.desk.specs.{Runs.AnswersAll, Runs.EndsBy, SeenRuns.told_in_turn, SeenRuns.IsSeenEnd, SeenRuns.RunsAreSeen, declared.fault.DeskFault.DeskFault}
use Rattle.desk.proofs.Running.{honest_all, honest_end}

-- the replies that were given in two stretches
told-append : {S C : Type 0} (later earlier : List (Seen S C)) → told_by (later ++ earlier) ≡ told_by later ++ told_by earlier
told-append [] earlier = refl
told-append (seen_reply call reply new ∷ later) earlier = ap (λ l. record { call = call; reply = reply } ∷ l) (told-append later earlier)
told-append (x ∷ later) earlier = told-append later earlier

module _ {S C : Type 0} (v : Sight S C) where
  -- one thing more is seen where a desk runs
  pub seen_next : (first : Place S C) (earlier : List (Seen S C)) (old : S) (x : Seen S C) → place_after first earlier ≡ runs old →
      MaySee v x (runs old) → IsSeen v first earlier → IsSeen v first (x ∷ earlier)
  seen_next first earlier old x at may seen = (subst (MaySee v x) (sym at) may, seen)

  -- replies that may be seen
  pub record AreSeen (first : Place S C) (earlier : List (Seen S C)) (calls : List Call) (replies : List Reply) (mid : S) : Type 0 where
    pub seen : List (Seen S C)
    pub is : IsSeen v first (seen ++ earlier)
    pub at : place_after first (seen ++ earlier) ≡ runs mid
    pub told : told_by seen ≡ told_in_turn calls replies

  -- the replies after the first
  and_first : (first : Place S C) (earlier : List (Seen S C)) (call : Call) (reply : Reply) (between mid : S) (calls : List Call)
      (replies : List Reply) → AreSeen first (seen_reply call reply between ∷ earlier) calls replies mid → AreSeen first earlier (call ∷ calls)
      (reply ∷ replies) mid
  and_first first earlier call reply between mid calls replies h =
      let x = seen_reply call reply between in
      let same : (h.seen ++ x ∷ []) ++ earlier ≡ h.seen ++ (x ∷ earlier) = append_assoc h.seen (x ∷ []) earlier in
      record {
        seen = h.seen ++ x ∷ [];
        is = subst (IsSeen v first) (sym same) h.is;
        at = ap (place_after first) same ∙ h.at;
        told = told-append h.seen (x ∷ []) ∙ ap (λ l. l ++ record { call = call; reply = reply } ∷ []) h.told;
      }

  -- the answers of a run are seen
  are_seen : (first : Place S C) (earlier : List (Seen S C)) (old mid : S) (calls : List Call) (replies : List Reply) →
      place_after first earlier ≡ runs old → IsSeen v first earlier → v.is_honest mid → AnswersAll v old calls replies mid →
      AreSeen first earlier calls replies mid
  are_seen first earlier old mid [] [] at seen h all = record { seen = []; is = seen; at = at ∙ ap runs (sym all); told = refl }
  are_seen first earlier old mid [] (r ∷ replies) at seen h all = absurd all
  are_seen first earlier old mid (call ∷ calls) [] at seen h all = absurd all
  are_seen first earlier old mid (call ∷ calls) (reply ∷ replies) at seen h all =
      let hb = honest_all v all.0 mid calls replies all.2 h in
      let may : IsExitInPlace v call old all.0 (Ok reply) = record { exits = record { honest = hb; answers = all.1 }; opened = refl } in
      and_first first earlier call reply all.0 mid calls replies
      (are_seen first (seen_reply call reply all.0 ∷ earlier) all.0 mid calls replies refl
      (seen_next first earlier old (seen_reply call reply all.0) at may seen) h all.2)

  -- and so is its end
  end_is_seen : (first : Place S C) (seen : List (Seen S C)) (mid new : S) (rest : List Call) (why : Option DeskFault) →
      place_after first seen ≡ runs mid → IsSeen v first seen → v.is_honest new → EndsBy v mid rest why new → IsSeenEnd v first seen mid rest why new
  end_is_seen first seen mid new rest None at is h ends = ends
  end_is_seen first seen mid new [] (Some why) at is h ends = absurd ends
  end_is_seen first seen mid new (call ∷ rest) (Some why) at is h ends =
      record {
        goes_on = λ going. seen_next first seen mid (seen_fault call why new) at (record { exits = record { honest = h; answers = ends }; opened = going }) is;
        stops =
            λ c left. seen_next first seen mid (seen_stop call (Err why) new c) at (record { exits = record { honest = h; answers = ends }; left = left }) is;
      }

  -- so the whole run
  pub runs_are_seen : RunsAreSeen v
  runs_are_seen first earlier old new calls replies why at seen h r =
      let hm = honest_end v r.0 new (drop (length replies) calls) why r.2 h in
      let answered = are_seen first earlier old r.0 (take (length replies) calls) replies at seen hm r.1 in
      record {
        seen = answered.seen;
        mid = r.0;
        is = answered.is;
        at = answered.at;
        told = answered.told;
        ends = end_is_seen first (answered.seen ++ earlier) r.0 new (drop (length replies) calls) why answered.at answered.is h r.2;
      }
