-- Calls that are answered one after the other.
use Rattle.std.proofs.Common.{◌≡◌, ℕ, ◌+◌, ◌<◌, ◌≤◌, List, [], ◌∷◌, ◌++◌, length, take, drop, get_or, subst, refl, sym, ◌∙◌, ap, add-one, inr, None, Some}
use Rattle.std.proofs.Common.{Option, Ok, Err, rules}
use Rattle.std.proofs.{Math.Seq.drop-cons, Math.Seq.take-suc, lemmas.List.drop_all}
use Rattle.desk_model.specs.{Entry.History, Legal.Legal, Tables.picture, declared.call.Call.Call, declared.reply.Reply.Reply, Decide.decide}
use Rattle.desk_model.specs.{Decide.after, Run.IsFormedCall, Run.fault, Run.run, Run.and_reply}
use Rattle.store_api.specs.{Sight.Sight, Sight.Keeps}
use Rattle.desk.specs.Runs.{AnswersAll, EndsBy, RunsAs, ExitsRun, IsOfModel, IsRun, Runs, TellsLate}
use Rattle.desk.specs.{Answers.Answers, Answers.ExitsBy, declared.fault.DeskFault.DeskFault}
use Rattle.desk.specs.declared.fault.DeskFault.TheVariants as deskfault

-- the first items and one more
pub take_one_more : {A : Type 0} (l : List A) (i : ℕ) (x : A) → i < length l → x ≡ get_or l i x → take (i + 1) l ≡ take i l ++ x ∷ []
take_one_more l i x lt is = rw add-one (take-suc l i x lt ∙ ap (λ y. take i l ++ y ∷ []) (sym is))

-- ---- the model's run

-- from a call that has no fault
ran_on : (F : History) (call : Call) (calls : List Call) → fault F call ≡ None →
    run F (call ∷ calls) ≡ and_reply (decide F call).reply (run (after F call) calls)
ran_on F call calls none = rw none refl

-- and from one that has
ran_out : (F : History) (call : Call) (calls : List Call) (n : ℕ) → fault F call ≡ Some n →
    run F (call ∷ calls) ≡ record { replies = []; history = F }
ran_out F call calls n some = rw some refl

-- ---- calls that are too late

-- a fault of memory tells of no call that it is too late
pub tells_memory : (rest : List Call) → TellsLate rest deskfault.Memory
tells_memory rest = record { late = λ is. absurd (let e = is in cc); told = λ past. inr refl }

-- what is told of the next call and the rest is told of the calls that are left
pub late_at : (calls : List Call) (n i : ℕ) (call : Call) (why : DeskFault) → n ≡ i → i < length calls → call ≡ get_or calls i call
    → ((rest : List Call) → TellsLate (call ∷ rest) why) → TellsLate (drop n calls) why
late_at calls n i call why counted lt is tells = search (rules, drop-cons)

module _ {S C : Type 0} (v : Sight S C) where
  -- ---- the chain

  -- one more call is answered
  pub answers_more : (old now new : S) (calls : List Call) (replies : List Reply) (call : Call) (reply : Reply) → AnswersAll v old calls replies now →
      Answers v call now new (Ok reply) → AnswersAll v old (calls ++ call ∷ []) (replies ++ reply ∷ []) new
  answers_more old now new [] [] call reply all one = (new, subst (λ s. Answers v call s new (Ok reply)) all one, refl)
  answers_more old now new [] (r ∷ replies) call reply all one = absurd all
  answers_more old now new (c ∷ calls) [] call reply all one = absurd all
  answers_more old now new (c ∷ calls) (r ∷ replies) call reply all one =
      (all.0, all.1, answers_more all.0 now new calls replies call reply all.2 one)

  -- memory that is refused before a call is made leaves the store as it is
  pub declines : (call : Call) (here : S) → IsFormedCall call → Answers v call here here (Err deskfault.Memory)
  declines call here formed = record {
    formed = formed;
    honest = λ h. h;
    unchanged = λ opened. record { honest = λ h. h; left = λ honest c may. may; tables = λ honest T held. held };
    exit = λ h F legal keeps. record { cause = tt; keeps = keeps };
  }

  -- the first calls were answered, and the next one ends the run
  pub ends_at : (old mid new : S) (calls : List Call) (replies : List Reply) (i : ℕ) (call : Call) (why : DeskFault) → length replies ≡ i →
      i < length calls → call ≡ get_or calls i call → AnswersAll v old (take i calls) replies mid → Answers v call mid new (Err why) →
      RunsAs v old calls replies (Some why) new
  ends_at old mid new calls replies i call why counted lt is all ended = (
    mid,
    subst (λ n. AnswersAll v old (take n calls) replies mid) (sym counted) all,
    subst (λ n. EndsBy v mid (drop n calls) (Some why) new) (sym counted)
        (subst (λ l. EndsBy v mid l (Some why) new) (sym (drop-cons calls i call lt))
        (subst (λ c. Answers v c mid new (Err why)) is ended)),
  )

  -- all calls were answered
  pub ends_with_all : (old new : S) (calls : List Call) (replies : List Reply) (i : ℕ) → length replies ≡ i → length calls ≤ i →
      AnswersAll v old (take i calls) replies new → RunsAs v old calls replies None new
  ends_with_all old new calls replies i counted end all = (
    new,
    subst (λ n. AnswersAll v old (take n calls) replies new) (sym counted) all,
    (ap (λ n. drop n calls) counted ∙ drop_all i calls end, refl),
  )

  -- ---- honesty to the end

  -- through the answers
  pub honest_all : (old mid : S) (calls : List Call) (replies : List Reply) → AnswersAll v old calls replies mid → v.is_honest mid → v.is_honest old
  honest_all old mid [] [] all h = subst v.is_honest all h
  honest_all old mid [] (r ∷ replies) all h = absurd all
  honest_all old mid (c ∷ calls) [] all h = absurd all
  honest_all old mid (c ∷ calls) (r ∷ replies) all h = all.1.honest (honest_all all.0 mid calls replies all.2 h)

  -- and through the last exit
  pub honest_end : (mid new : S) (rest : List Call) (why : Option DeskFault) → EndsBy v mid rest why new → v.is_honest new → v.is_honest mid
  honest_end mid new rest None ends h = subst v.is_honest ends.1 h
  honest_end mid new [] (Some why) ends h = absurd ends
  honest_end mid new (call ∷ rest) (Some why) ends h = ends.honest h

  -- ---- the end of a run

  -- the exit of the run, at the history of the calls that were answered
  exits_run : (F : History) → Legal F → (mid new : S) (rest : List Call) (why : Option DeskFault) → Keeps v mid (picture F) → v.is_honest new →
      EndsBy v mid rest why new → ExitsRun v F rest why new
  exits_run F legal mid new rest None keeps h ends = (ends.0, subst (λ s. Keeps v s (picture F)) (sym ends.1) keeps)
  exits_run F legal mid new [] (Some why) keeps h ends = absurd ends
  exits_run F legal mid new (call ∷ rest) (Some why) keeps h ends = ends.exit h F legal keeps

  -- the model stops where the desk does
  stops : (F : History) (call : Call) (calls : List Call) (why : DeskFault) (new : S) → ExitsBy v F call why new → IsOfModel (Some why) →
      run F [] ≡ run F (call ∷ calls)
  stops F call calls deskfault.Moment new e is = sym (ran_out F call calls 24 e.cause)
  stops F call calls deskfault.ShortRandom new e is = sym (ran_out F call calls 25 e.cause)
  stops F call calls deskfault.Full new e is = sym (ran_out F call calls 26 e.cause)
  stops F call calls deskfault.NotADesk new e is = absurd e.cause
  stops F call calls deskfault.NewerFormat new e is = absurd e.cause
  stops F call calls why new e is = absurd is

  -- a run that ends here is the model's
  whole : (F : History) (rest : List Call) (why : Option DeskFault) (new : S) → ExitsRun v F rest why new → IsOfModel why → run F [] ≡ run F rest
  whole F rest None new e is = ap (run F) (sym e.0)
  whole F [] (Some why) new e is = absurd e
  whole F (call ∷ rest) (Some why) new e is = stops F call rest why new e is

  -- ---- the whole run

  -- by a history, from the chain
  is_run : (F : History) → Legal F → (old mid new : S) (calls : List Call) (replies : List Reply) (why : Option DeskFault) → Keeps v old (picture F) →
      v.is_honest mid → v.is_honest new → AnswersAll v old (take (length replies) calls) replies mid →
      EndsBy v mid (drop (length replies) calls) why new → IsRun v F calls replies why new
  is_run F legal old mid new calls [] why keeps hm h all ends =
      let exit = exits_run F legal mid new calls why (subst (λ s. Keeps v s (picture F)) (sym all) keeps) h ends in
      record { answered = refl; legal = legal; exit = exit; whole = whole F calls why new exit }
  is_run F legal old mid new [] (r ∷ replies) why keeps hm h all ends = absurd all
  is_run F legal old mid new (call ∷ calls) (r ∷ replies) why keeps hm h all ends =
      let hb = honest_all all.0 mid (take (length replies) calls) replies all.2 hm in
      let a = all.1.exit hb F legal keeps in
      let next = is_run (after F call) a.stays_legal all.0 mid new calls replies why a.keeps hm h all.2 ends in
      let on = ran_on F call (take (length replies) calls) a.faultless in
      record {
        answered = ap (λ x. x ∷ replies) a.decided ∙ ap (λ l. (decide F call).reply ∷ l) next.answered ∙ sym (ap (λ q. q.replies) on);
        legal = subst (λ q. Legal q.history) (sym on) next.legal;
        exit = subst (λ q. ExitsRun v q.history (drop (length replies) calls) why new) (sym on) next.exit;
        whole = λ is. on ∙ ap (λ q. and_reply (decide F call).reply q) (next.whole is) ∙ sym (ran_on F call calls a.faultless);
      }

  -- and so it is by every one
  pub runs : (calls : List Call) (old new : S) (replies : List Reply) (why : Option DeskFault) → RunsAs v old calls replies why new →
      Runs v calls old new replies why
  runs calls old new replies why r =
      record {
        honest = λ h. honest_all old r.0 (take (length replies) calls) replies r.1 (honest_end r.0 new (drop (length replies) calls) why r.2 h);
        exit = λ h F legal keeps. is_run F legal old r.0 new calls replies why keeps (honest_end r.0 new (drop (length replies) calls) why r.2 h) h r.1 r.2;
      }
