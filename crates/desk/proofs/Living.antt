-- What is seen of a desk is a life.
use Rattle.std.proofs.Common.{◌≡◌, List, [], ◌∷◌, ◌++◌, Bool, true, false, refl, sym, ap, subst, ◌∙◌, append_assoc, Result, Ok, Err, inl, inr}
use Rattle.desk_model.specs.{Entry.History, Legal.Legal, Tables.picture, Decide.decide, Run.IsFormedCall, declared.call.Call.Call, declared.reply.Reply.Reply}
use Rattle.desk_model.specs.Life.{Event, Replied, Faulted, Stopped, Reopened, IsLife, history, kept_calls, made_by, EndedRowsStay}
use Rattle.model_lives.proofs.{Ended.ended_stays, Nonces.nonces_serve_once}
use Rattle.model_lives.proofs.Extends.{acknowledged_stays, histories_are_legal, histories_are_of_calls, life_before, replies_are_decided}
use Rattle.store_api.specs.Sight.{Sight, Keeps, Opens}
use Rattle.desk.specs.Seen.{Place, runs, rests, Seen, seen_reply, seen_fault, seen_stop, seen_end, seen_open, seen_failure, place_after, told_by, replied}
use Rattle.desk.specs.Seen.{IsExit, IsExitInPlace, IsExitOfStop, MaySee, MaySeeOn, MaySeeOff, IsSeen, IsAt, RunsIn, SeenIsLived, Follows, AreKeptOf}
use Rattle.desk.specs.Seen.{SeenIsOfCalls, RepliesAreKept, NonceServesOnce, NoncesSeenOnce, EndedSeenStays}
use Rattle.desk.specs.{Answers.Exits, Answers.IsEither, declared.fault.DeskFault.DeskFault}
use Rattle.desk.proofs.Policies.{policy_stays}
use Rattle.desk.specs.declared.fault.DeskFault.TheVariants as deskfault

module _ {S C : Type 0} (v : Sight S C) where
  -- a life, at a place
  pub record IsLiving (start : History) (place : Place S C) (P : List Event → Type 0) : Type 0 where
    pub life : List Event
    pub lives : IsLife start life
    pub at : IsAt v (history start life) place
    pub running : RunsIn v place life
    pub says : P life

  -- the exit of a call, by the history of the life
  exit_of : (start : History) (old : S) (P : List Event → Type 0) (h : IsLiving start (runs old) P) (call : Call) (new : S)
      (exit : Result Reply DeskFault) → IsExit v call old new exit → Exits v (history start h.life) call exit new
  exit_of start old P h call new exit is = is.answers.exit is.honest (history start h.life) (histories_are_legal start h.life h.lives) h.at

  -- a reply
  replies : (start : History) (old : S) (P : List Event → Type 0) (call : Call) (reply : Reply) (new : S) → IsLiving start (runs old) P →
      IsExitInPlace v call old new (Ok reply) → IsLiving start (runs new)
      (λ life. IsAt v (history start life) (runs new) × ((before : List Event) × (life ≡ Replied call reply ∷ before) × P before))
  replies start old P call reply new h is =
      let a = exit_of start old P h call new (Ok reply) is.exits in
      record {
        life = Replied call reply ∷ h.life;
        lives = ((h.running, is.exits.answers.formed, a.faultless, a.decided), h.lives);
        at = a.keeps;
        running = refl;
        says = (a.keeps, (h.life, refl, h.says));
      }

  -- a fault after which the desk goes on
  goes_on : (start : History) (old : S) (P : List Event → Type 0) (call : Call) (new : S) (h : IsLiving start (runs old) P) →
      Keeps v new (picture (history start h.life)) → IsLiving start (runs new)
      (λ life. IsAt v (history start life) (runs new) × ((before : List Event) × (life ≡ Faulted call ∷ before) × P before))
  goes_on start old P call new h keeps =
      record { life = Faulted call ∷ h.life; lives = (h.running, h.lives); at = keeps; running = refl; says = (keeps, (h.life, refl, h.says)) }

  -- each such fault
  faults : (start : History) (old : S) (P : List Event → Type 0) (call : Call) (why : DeskFault) (new : S) → IsLiving start (runs old) P →
      IsExitInPlace v call old new (Err why) → IsLiving start (runs new)
      (λ life. IsAt v (history start life) (runs new) × ((before : List Event) × (life ≡ Faulted call ∷ before) × P before))
  faults start old P call deskfault.Device new h is = absurd (cc is.opened)
  faults start old P call deskfault.Reopen new h is = absurd (cc is.opened)
  faults start old P call why new h is = goes_on start old P call new h (exit_of start old P h call new (Err why) is.exits).keeps

  -- a stop leaves one of two
  either : (start : History) (old : S) (P : List Event → Type 0) (call : Call) (c : C) (h : IsLiving start (runs old) P) → IsFormedCall call →
      IsEither v (history start h.life) call c → IsLiving start (rests c)
      (λ life. IsAt v (history start life) (rests c) × ((kept : Bool) × ((before : List Event) × (life ≡ Stopped call kept ∷ before) × P before)))
  either start old P call c h formed (inl has) =
      record { life = Stopped call false ∷ h.life; lives = (h.running, h.lives); at = has; running = tt; says = (has, (false, (h.life, refl, h.says))) }
  either start old P call c h formed (inr both) =
      record {
        life = Stopped call true ∷ h.life;
        lives = ((h.running, formed, both.0), h.lives);
        at = both.1;
        running = tt;
        says = (both.1, (true, (h.life, refl, h.says)));
      }

  -- what a stop leaves at an exit
  left_by : (F : History) (call : Call) (new : S) (exit : Result Reply DeskFault) (c : C) → Exits v F call exit new → v.leaves new c → IsEither v F call c
  left_by F call new (Ok reply) c e left = inr (e.faultless, e.keeps.left c left)
  left_by F call new (Err deskfault.Device) c e left = e c left
  left_by F call new (Err deskfault.Reopen) c e left = e c left
  left_by F call new exit c e left = inl (e.keeps.left c left)

  -- a stop
  stops : (start : History) (old : S) (P : List Event → Type 0) (call : Call) (exit : Result Reply DeskFault) (new : S) (c : C) →
      IsLiving start (runs old) P → IsExitOfStop v call old new exit c → IsLiving start (rests c)
      (λ life. IsAt v (history start life) (rests c) × ((kept : Bool) × ((before : List Event) × (life ≡ Stopped call kept ∷ before) × P before)))
  stops start old P call exit new c h is =
      either start old P call c h is.exits.answers.formed
      (left_by (history start h.life) call new exit c (exit_of start old P h call new exit is.exits) is.left)

  -- an opening
  opens : (start : History) (old : C) (P : List Event → Type 0) (new : S) → IsLiving start (rests old) P → Opens v old new → IsLiving start (runs new)
      (λ life. IsAt v (history start life) (runs new) × ((before : List Event) × (life ≡ Reopened ∷ before) × P before))
  opens start old P new h is =
      let keeps = is (picture (history start h.life)) h.at in
      record { life = Reopened ∷ h.life; lives = (tt, h.lives); at = keeps; running = refl; says = (keeps, (h.life, refl, h.says)) }

  -- one thing more is seen
  on : (start : History) (old : S) (seen : List (Seen S C)) (first : Place S C) (x : Seen S C) → IsLiving start (runs old) (Follows v start seen) →
      MaySeeOn v x old → IsLiving start (place_after first (x ∷ seen)) (Follows v start (x ∷ seen))
  on start old seen first (seen_reply call reply new) h is = replies start old (Follows v start seen) call reply new h is
  on start old seen first (seen_fault call why new) h is = faults start old (Follows v start seen) call why new h is
  on start old seen first (seen_stop call exit new c) h is = stops start old (Follows v start seen) call exit new c h is
  on start old seen first (seen_end c) h is =
      record { life = h.life; lives = h.lives; at = h.at.left c is; running = tt; says = (h.at.left c is, h.says) }
  on start old seen first x h is = absurd is

  -- the same where no desk runs
  off : (start : History) (old : C) (seen : List (Seen S C)) (first : Place S C) (x : Seen S C) → IsLiving start (rests old) (Follows v start seen) →
      MaySeeOff v x old → IsLiving start (place_after first (x ∷ seen)) (Follows v start (x ∷ seen))
  off start old seen first (seen_open new) h is = opens start old (Follows v start seen) new h is
  off start old seen first (seen_failure c) h is =
      let has = is (picture (history start h.life)) h.at in
      record { life = h.life; lives = h.lives; at = has; running = tt; says = (has, h.says) }
  off start old seen first x h is = absurd is

  -- and wherever it is
  more : (start : History) (place : Place S C) (seen : List (Seen S C)) (first : Place S C) (x : Seen S C) →
      IsLiving start place (Follows v start seen) → MaySee v x place → IsLiving start (place_after first (x ∷ seen)) (Follows v start (x ∷ seen))
  more start (runs old) seen first x h is = on start old seen first x h is
  more start (rests old) seen first x h is = off start old seen first x h is

  -- nothing is seen yet
  begins : (start : History) (first : Place S C) → Legal start → IsAt v start first → IsLiving start first (Follows v start [])
  begins start (runs s) is at = record { life = []; lives = is; at = at; running = refl; says = refl }
  begins start (rests c) is at = record { life = []; lives = is; at = at; running = tt; says = refl }

  -- all that is seen
  living : (start : History) (first : Place S C) (seen : List (Seen S C)) → Legal start → IsAt v start first → IsSeen v first seen →
      IsLiving start (place_after first seen) (Follows v start seen)
  living start first [] is at all = begins start first is at
  living start first (x ∷ seen) is at all = more start (place_after first seen) seen first x (living start first seen is at all.1) all.0

  -- the replies that were seen are those of the life
  told_of : (start : History) (seen : List (Seen S C)) (life : List Event) → Follows v start seen life → replied life ≡ told_by seen
  told_of start [] life f = ap replied f
  told_of start (seen_reply call reply new ∷ seen) life f =
      ap replied f.1.1 ∙ ap (λ l. record { call = call; reply = reply } ∷ l) (told_of start seen f.1.0 f.1.2)
  told_of start (seen_fault call why new ∷ seen) life f = ap replied f.1.1 ∙ told_of start seen f.1.0 f.1.2
  told_of start (seen_stop call exit new c ∷ seen) life f = ap replied f.1.1.1 ∙ told_of start seen f.1.1.0 f.1.1.2
  told_of start (seen_open new ∷ seen) life f = ap replied f.1.1 ∙ told_of start seen f.1.0 f.1.2
  told_of start (x ∷ seen) life f = told_of start seen life f.1

  -- so it is a life
  pub seen_is_lived : SeenIsLived v
  seen_is_lived start first seen is at all =
      let h = living start first seen is at all in
      record { life = h.life; lives = h.lives; at = h.at; running = h.running; follows = h.says; told = told_of start seen h.life h.says }

  -- ---- the headline

  -- the life of what was seen by then
  pub record Splits (start : History) (earlier : List (Seen S C)) (life : List Event) : Type 0 where
    pub since : List Event
    pub by_then : List Event
    pub is : life ≡ since ++ by_then
    pub follows : Follows v start earlier by_then

  -- a life that is longer by one event
  split_on : (start : History) (earlier : List (Seen S C)) (life : List Event) (x : Event) (before : List Event) → life ≡ x ∷ before →
      Splits start earlier before → Splits start earlier life
  split_on start earlier life x before is h = record { since = x ∷ h.since; by_then = h.by_then; is = is ∙ ap (λ l. x ∷ l) h.is; follows = h.follows }

  -- what was seen in two stretches
  splits : (start : History) (later earlier : List (Seen S C)) (life : List Event) → Follows v start (later ++ earlier) life → Splits start earlier life
  splits start [] earlier life f = record { since = []; by_then = life; is = refl; follows = f }
  splits start (seen_reply call reply new ∷ later) earlier life f =
      split_on start earlier life (Replied call reply) f.1.0 f.1.1 (splits start later earlier f.1.0 f.1.2)
  splits start (seen_fault call why new ∷ later) earlier life f =
      split_on start earlier life (Faulted call) f.1.0 f.1.1 (splits start later earlier f.1.0 f.1.2)
  splits start (seen_stop call exit new c ∷ later) earlier life f =
      split_on start earlier life (Stopped call f.1.0) f.1.1.0 f.1.1.1 (splits start later earlier f.1.1.0 f.1.1.2)
  splits start (seen_open new ∷ later) earlier life f = split_on start earlier life Reopened f.1.0 f.1.1 (splits start later earlier f.1.0 f.1.2)
  splits start (x ∷ later) earlier life f = splits start later earlier life f.1

  -- the calls that a life keeps are those that were answered and some of those that a stop cut off
  kept_of : (start : History) (seen : List (Seen S C)) (life : List Event) → Follows v start seen life → AreKeptOf seen (kept_calls life)
  kept_of start [] life f = ap kept_calls f
  kept_of start (seen_reply call reply new ∷ seen) life f = (kept_calls f.1.0, ap kept_calls f.1.1, kept_of start seen f.1.0 f.1.2)
  kept_of start (seen_fault call why new ∷ seen) life f = subst (AreKeptOf seen) (sym (ap kept_calls f.1.1)) (kept_of start seen f.1.0 f.1.2)
  kept_of start (seen_stop call exit new c ∷ seen) life f = by f.1.0 f.1.1.1 (kept_of start seen f.1.1.0 f.1.1.2)
    where
      by : (kept : Bool) → life ≡ Stopped call kept ∷ f.1.1.0 → AreKeptOf seen (kept_calls f.1.1.0) → AreKeptOf (seen_stop call exit new c ∷ seen)
          (kept_calls life)
      by true is rest = inr (kept_calls f.1.1.0, ap kept_calls is, rest)
      by false is rest = inl (subst (AreKeptOf seen) (sym (ap kept_calls is)) rest)
  kept_of start (seen_open new ∷ seen) life f = subst (AreKeptOf seen) (sym (ap kept_calls f.1.1)) (kept_of start seen f.1.0 f.1.2)
  kept_of start (x ∷ seen) life f = kept_of start seen life f.1

  -- what the end is made of
  pub seen_is_of_calls : SeenIsOfCalls v
  seen_is_of_calls start first seen is at all =
      let h = living start first seen is at all in
      let made = histories_are_of_calls start h.life h.lives in
      record {
        calls = kept_calls h.life;
        kept = kept_of start seen h.life h.says;
        legal = subst Legal made (histories_are_legal start h.life h.lives);
        at = subst (λ F. IsAt v F (place_after first seen)) made h.at;
        policy = policy_stays start (kept_calls h.life) is (subst Legal made (histories_are_legal start h.life h.lives));
      }

  -- what a reply promises
  pub replies_are_kept : RepliesAreKept v
  replies_are_kept start first later earlier call reply new is at all =
      let h = living start first (later ++ seen_reply call reply new ∷ earlier) is at all in
      let s = splits start later (seen_reply call reply new ∷ earlier) h.life h.says in
      let f = s.follows in
      let before = f.1.0 in
      let whole : h.life ≡ s.since ++ Replied call reply ∷ before = s.is ∙ ap (λ l. s.since ++ l) f.1.1 in
      let lives : IsLife start (s.since ++ Replied call reply ∷ before) = subst (IsLife start) whole h.lives in
      let then = life_before start s.since (Replied call reply ∷ before) lives in
      let first_ones = acknowledged_stays start s.since before call reply lives in
      let kept : kept_calls h.life ≡ first_ones.later ++ call ∷ kept_calls before = ap kept_calls whole ∙ first_ones.first in
      let made : history start h.life ≡ made_by start (first_ones.later ++ call ∷ kept_calls before) =
      histories_are_of_calls start h.life h.lives ∙ ap (made_by start) kept in
      record {
        before = kept_calls before;
        since = first_ones.later;
        kept_before = kept_of start earlier before f.1.2;
        decided =
            subst (λ F. reply ≡ (decide F call).reply) (histories_are_of_calls start before then.1)
            (replies_are_decided start s.since before call reply lives);
        then =
            subst (λ F. Keeps v new (picture F)) (histories_are_of_calls start (Replied call reply ∷ before) then)
            (subst (λ l. Keeps v new (picture (history start l))) f.1.1 f.0);
        kept =
            subst (AreKeptOf (later ++ seen_reply call reply new ∷ earlier)) kept
            (kept_of start (later ++ seen_reply call reply new ∷ earlier) h.life h.says);
        legal = subst Legal made (histories_are_legal start h.life h.lives);
        at_end = subst (λ F. IsAt v F (place_after first (later ++ seen_reply call reply new ∷ earlier))) made h.at;
      }

  -- where the desk is, by its life
  at_of : (start : History) (first : Place S C) (seen : List (Seen S C)) (life : List Event) → IsAt v start first → Follows v start seen life →
      IsAt v (history start life) (place_after first seen)
  at_of start first [] life at f = subst (λ l. IsAt v (history start l) first) (sym f) at
  at_of start first (seen_reply call reply new ∷ seen) life at f = f.0
  at_of start first (x ∷ seen) life at f = f.0

  -- two answered requests in one life
  once : (start : History) (first : Place S C) (middle earlier : List (Seen S C)) (one two : Call) (reply other : Reply) (new : S)
      (life since by_two between by_one : List Event) →
      IsAt v start first → IsLife start life → life ≡ since ++ Replied two other ∷ by_two → by_two ≡ between ++ Replied one reply ∷ by_one →
      Follows v start (middle ++ seen_reply one reply new ∷ earlier) by_two → Follows v start earlier by_one →
      NonceServesOnce v first middle earlier one two reply new
  once start first middle earlier one two reply other new life since by_two between by_one at lives is_two is_one follows_two follows_one =
      let whole = subst (λ l. IsLife start (since ++ (Replied two other ∷ l))) is_one (subst (IsLife start) is_two lives) in
      record {
        before_one = history start by_one;
        before_two = history start (between ++ Replied one reply ∷ by_one);
        at_one = at_of start first earlier by_one at follows_one;
        at_two =
            subst (λ l. IsAt v (history start l) (place_after first (middle ++ seen_reply one reply new ∷ earlier))) is_one
            (at_of start first (middle ++ seen_reply one reply new ∷ earlier) by_two at follows_two);
        once = λ text p q. nonces_serve_once start since between by_one one two reply other text
            (subst (IsLife start) (sym (append_assoc since (Replied two other ∷ between) (Replied one reply ∷ by_one))) whole) p q;
      }

  -- and so of what is seen
  pub nonces_seen_once : NoncesSeenOnce v
  nonces_seen_once start first later middle earlier one two reply other new newer is at all =
      let h = living start first (later ++ (seen_reply two other newer ∷ (middle ++ (seen_reply one reply new ∷ earlier)))) is at all in
      let s2 = splits start later (seen_reply two other newer ∷ (middle ++ (seen_reply one reply new ∷ earlier))) h.life h.says in
      let f2 = s2.follows in
      let s1 = splits start middle (seen_reply one reply new ∷ earlier) f2.1.0 f2.1.2 in
      let f1 = s1.follows in
      once start first middle earlier one two reply other new h.life s2.since f2.1.0 s1.since f1.1.0 at h.lives
      (s2.is ∙ ap (λ l. s2.since ++ l) f2.1.1) (s1.is ∙ ap (λ l. s1.since ++ l) f1.1.1) f2.1.2 f1.1.2

  -- what has ended stays
  pub ended_seen_stays : EndedSeenStays v
  ended_seen_stays start first later earlier is at all =
      let h = living start first (later ++ earlier) is at all in
      let s = splits start later earlier h.life h.says in
      record {
        before = history start s.by_then;
        end = history start h.life;
        at_before = at_of start first earlier s.by_then at s.follows;
        at_end = h.at;
        rows =
            subst (λ l. EndedRowsStay (picture (history start s.by_then)) (picture (history start l))) (sym s.is)
            (ended_stays start s.since s.by_then (subst (IsLife start) s.is h.lives));
      }
