-- Calls to a desk, one after the other.
use Rattle.std.proofs.Common.{◌≡◌, ◌⊎◌, List, [], ◌∷◌, Bool, true, false, Result, Ok, Err, IsTrue, ap, inl, inr, refl, subst, sym}
use Rattle.desk.specs.{Answers.Exits, Answers.IsEither, Faults.closes, State.DeskState, declared.fault.DeskFault.DeskFault, Meets.ActsOnce, Meets.Meets}
use Rattle.desk.specs.{Seen.Told, Seen.replied}
use Rattle.desk.specs.declared.fault.DeskFault.TheVariants as deskfault
use Rattle.model_lives.proofs.Extends.{histories_are_legal}
use Rattle.desk_model.specs.{Entry.History, Legal.Legal, Run.IsFormedCall, Tables.picture, declared.call.Call.Call, declared.reply.Reply.Reply}
use Rattle.desk_model.specs.Life.{Event, IsLife, Replied, Stopped, history, is_running, kept_calls}
use Rattle.store_api.specs.Sight.{Keeps, Sight}
use Rattle.app_lives.specs.Kept.{Answered, HasLife, calls_of, not_one, one_declined, one_more}

-- a Bool, with what it is
by_value : {A : Type 0} (b : Bool) → (b ≡ true → A) → (b ≡ false → A) → A
by_value true if_true if_false = if_true refl
by_value false if_true if_false = if_false refl

module _ {S C : Type 0} (v : Sight S C) where
  -- the disk was honest before a call, where it is behind it
  honest_before : (call : Call) (mid new : DeskState S) (result : Result Reply DeskFault) → Meets v call mid new result → v.is_honest new.store
      → v.is_honest mid.store
  honest_before call mid new result meets honest =
      by_value mid.is_closed (λ is. subst (λ (d : DeskState S). v.is_honest d.store) ((meets.when_closed is).1) honest)
      (λ is. (meets.when_open is).answers.honest honest)

  -- and before all of them
  pub honest_at_first : (old new : DeskState S) (told : List Told) → Answered v old told new → v.is_honest new.store → v.is_honest old.store
  honest_at_first old new told not_one honest = honest
  honest_at_first old new told (one_more {mid = mid} call reply before meets) honest =
      honest_at_first old mid _ before (honest_before call mid new (Ok reply) meets honest)
  honest_at_first old new told (one_declined {mid = mid} call why before meets) honest =
      honest_at_first old mid _ before (honest_before call mid new (Err why) meets honest)

  -- a life in which these were the replies, and no call was cut off; the store has its tables
  record Living (F : History) (told : List Told) (s : S) : Type 0 where
    pub life : List Event
    pub running : IsTrue (is_running life)
    pub lives : IsLife F life
    pub replies : replied life ≡ told
    pub kept : kept_calls life ≡ calls_of told
    pub keeps : Keeps v s (picture (history F life))

  -- a desk behind calls: it is open, and lives on; or it is closed, and a stop leaves such a life, or one more call of it
  data Stays (F : History) (told : List Told) (d : DeskState S) : Type 0 where
    on : d.is_closed ≡ false → Living F told d.store → Stays F told d
    off : d.is_closed ≡ true → ((c : C) → v.leaves d.store c → HasLife v F told c) → Stays F told d

  -- the life goes on to a content that has the tables of it, or of one call more
  has_either : (F : History) (told : List Told) (s : S) (call : Call) (c : C) → (l : Living F told s) → IsFormedCall call
      → IsEither v (history F l.life) call c → HasLife v F told c
  has_either F told s call c l formed (inl has) =
      record { life = l.life; lives = l.lives; replies = l.replies; kept = inl (l.kept); tables = has }
  has_either F told s call c l formed (inr has) =
      record {
        life = Stopped call true ∷ l.life;
        lives = ((l.running, formed, has.0), l.lives);
        replies = l.replies;
        kept = inr (call, ap (λ calls. call ∷ calls) l.kept);
        tables = has.1;
      }

  -- behind a call that changed nothing
  still : (F : History) (told : List Told) (s new : S) (l : Living F told s) → Keeps v new (picture (history F l.life)) → Living F told new
  still F told s new l keeps =
      record { life = l.life; running = l.running; lives = l.lives; replies = l.replies; kept = l.kept; keeps = keeps }

  -- a call to an open desk that was declined
  declined_open : (F : History) (told : List Told) (s : S) (call : Call) (why : DeskFault) (d : DeskState S) → d.is_closed ≡ closes why
      → (l : Living F told s) → IsFormedCall call → Exits v (history F l.life) call (Err why) d.store → Stays F told d
  declined_open F told s call deskfault.Device d flag l formed exit = off flag (λ c may. has_either F told s call c l formed (exit c may))
  declined_open F told s call deskfault.Reopen d flag l formed exit = off flag (λ c may. has_either F told s call c l formed (exit c may))
  declined_open F told s call deskfault.Memory d flag l formed exit = on flag (still F told s d.store l exit.keeps)
  declined_open F told s call deskfault.NotADesk d flag l formed exit = on flag (still F told s d.store l exit.keeps)
  declined_open F told s call deskfault.Moment d flag l formed exit = on flag (still F told s d.store l exit.keeps)
  declined_open F told s call deskfault.ShortRandom d flag l formed exit = on flag (still F told s d.store l exit.keeps)
  declined_open F told s call deskfault.Full d flag l formed exit = on flag (still F told s d.store l exit.keeps)
  declined_open F told s call deskfault.NewerFormat d flag l formed exit = on flag (still F told s d.store l exit.keeps)

  -- one call more that was replied to
  replied_more : (F : History) (told : List Told) (call : Call) (reply : Reply) (mid new : DeskState S) → Meets v call mid new (Ok reply)
      → v.is_honest new.store → Stays F told mid → Stays F (record { call = call; reply = reply } ∷ told) new
  replied_more F told call reply mid new meets honest (on running l) =
      let answers = meets.when_open running in
      let exit = answers.answers.exit honest (history F l.life) (histories_are_legal F l.life l.lives) l.keeps in
      on answers.flag (record {
        life = Replied call reply ∷ l.life;
        running = refl;
        lives = ((l.running, answers.answers.formed, exit.faultless, exit.decided), l.lives);
        replies = ap (λ earlier. record { call = call; reply = reply } ∷ earlier) l.replies;
        kept = ap (λ calls. call ∷ calls) l.kept;
        keeps = exit.keeps;
      })
  replied_more F told call reply mid new meets honest (off closed left) = absurd (let e = (meets.when_closed closed).0 in cc)

  -- and one that was declined
  declined_more : (F : History) (told : List Told) (call : Call) (why : DeskFault) (mid new : DeskState S) → Meets v call mid new (Err why)
      → v.is_honest new.store → Stays F told mid → Stays F told new
  declined_more F told call why mid new meets honest (on running l) =
      let answers = meets.when_open running in
      declined_open F told mid.store call why new answers.flag l answers.answers.formed
      (answers.answers.exit honest (history F l.life) (histories_are_legal F l.life l.lives) l.keeps)
  declined_more F told call why mid new meets honest (off closed left) =
      subst (Stays F told) (sym ((meets.when_closed closed).1)) (off closed left)

  -- all of them
  stays : (F : History) (old new : DeskState S) (told : List Told) → Answered v old told new → v.is_honest new.store → old.is_closed ≡ false
      → Legal F → Keeps v old.store (picture F) → Stays F told new
  stays F old new told not_one honest running legal keeps =
      on running (record { life = []; running = refl; lives = legal; replies = refl; kept = refl; keeps = keeps })
  stays F old new told (one_more {told = before} {mid = mid} call reply chain meets) honest running legal keeps =
      replied_more F before call reply mid new meets honest
      (stays F old mid before chain (honest_before call mid new (Ok reply) meets honest) running legal keeps)
  stays F old new told (one_declined {mid = mid} call why chain meets) honest running legal keeps =
      declined_more F told call why mid new meets honest
      (stays F old mid told chain (honest_before call mid new (Err why) meets honest) running legal keeps)

  -- what is left then
  left_of : (F : History) (told : List Told) (d : DeskState S) → Stays F told d → (c : C) → v.leaves d.store c → HasLife v F told c
  left_of F told d (on running l) c may =
      record { life = l.life; lives = l.lives; replies = l.replies; kept = inl (l.kept); tables = l.keeps.left c may }
  left_of F told d (off closed left) c may = left c may

  -- what is left of a desk behind calls
  pub left_behind : (F : History) (old new : DeskState S) (told : List Told) → Answered v old told new → v.is_honest new.store
      → old.is_closed ≡ false → Legal F → Keeps v old.store (picture F) → (c : C) → v.leaves new.store c → HasLife v F told c
  left_behind F old new told chain honest running legal keeps = left_of F told new (stays F old new told chain honest running legal keeps)

  -- ---- what was done, as calls

  -- calls to a desk, of whose replies this is so
  pub record AreCalls (P : List Told → Type 0) (old new : DeskState S) : Type 0 where
    pub told : List Told
    pub answered : Answered v old told new
    pub says : P told

  -- these calls, of which something else is so, too
  abbrev pub of_calls : {P : List Told → Type 0} {old new : DeskState S} (Q : List Told → Type 0) (are : AreCalls P old new) → Q are.told → AreCalls Q old new
  of_calls Q are says = record { told = are.told; answered = are.answered; says = says }

  -- no call
  pub no_call : (P : List Told → Type 0) → P [] → (old new : DeskState S) → new ≡ old → AreCalls P old new
  no_call P none old new same = subst (AreCalls P old) (sym same) (record { told = []; answered = not_one; says = none })

  -- these, or one more, of which this is so
  abbrev pub OrOneMore : (P : List Told → Type 0) (L : Told → Type 0) → List Told → Type 0
  OrOneMore P L told = (earlier : List Told) × P earlier × ((told ≡ earlier) ⊎ ((last : Told) × (told ≡ last ∷ earlier) × L last))

  module _ (P : List Told → Type 0) (L : Told → Type 0) (old mid new : DeskState S) where
    -- none more
    pub none_more : new ≡ mid → AreCalls P old mid → AreCalls (OrOneMore P L) old new
    none_more same before =
        subst (AreCalls (OrOneMore P L) old) (sym same) (of_calls (OrOneMore P L) before (before.told, before.says, inl refl))

    -- one more that was replied to
    pub one_replied : (call : Call) (reply : Reply) → Meets v call mid new (Ok reply) → L (record { call = call; reply = reply }) → AreCalls P old mid
        → AreCalls (OrOneMore P L) old new
    one_replied call reply meets is before =
        let last : Told = record { call = call; reply = reply } in
        record {
          told = last ∷ before.told;
          answered = one_more call reply before.answered meets;
          says = (before.told, before.says, inr (last, refl, is));
        }

    -- or that was declined
    pub one_unanswered : (call : Call) (why : DeskFault) → Meets v call mid new (Err why) → AreCalls P old mid → AreCalls (OrOneMore P L) old new
    one_unanswered call why meets before =
        record { told = before.told; answered = one_declined call why before.answered meets; says = (before.told, before.says, inl refl) }

  -- of which anything is so
  abbrev pub AnyTold : Told → Type 0
  AnyTold told = Unit {0}

  -- one more
  acts_more : (P : List Told → Type 0) (old mid new : DeskState S) (call : Call) (result : Result Reply DeskFault) → Meets v call mid new result
      → AreCalls P old mid → AreCalls (OrOneMore P AnyTold) old new
  acts_more P old mid new call (Ok reply) meets before = one_replied P AnyTold old mid new call reply meets tt before
  acts_more P old mid new call (Err why) meets before = one_unanswered P AnyTold old mid new call why meets before

  -- one more, or none
  pub once_more : (P : List Told → Type 0) (old mid new : DeskState S) → AreCalls P old mid → ActsOnce v mid new
      → AreCalls (OrOneMore P AnyTold) old new
  once_more P old mid new before (inl same) = none_more P AnyTold old mid new same before
  once_more P old mid new before (inr one) = acts_more P old mid new one.call one.result one.meets before

  -- of all of which anything is so
  abbrev pub Any : List Told → Type 0
  Any told = Unit {0}
