-- A history after a call is a longer one, and what is acknowledged stays in it.
use Rattle.std.proofs.Common.{◌≡◌, ℕ, List, [], ◌∷◌, ◌++◌, Option, Some, refl, sym, ap, ◌∙◌, append_assoc, true, false, arith}
use Rattle.desk_model.specs.History.{record_all, moment_of, first, earlier}
use Rattle.desk_model.specs.Life.{Event, Replied, Faulted, Stopped, Reopened, history, kept_calls, made_by, IsLife, HistoriesAreLegal, HistoriesAreOfCalls}
use Rattle.desk_model.specs.Life.{AcknowledgedStays, RepliesAreDecided}
use Rattle.desk_model.specs.{Entry.History, declared.entry.Entry.Entry, declared.entry.Dated.Dated, declared.call.Call.Call, Decide.decide, Decide.after}
use Rattle.model_laws.proofs.Basics.{earlier-some}
use Rattle.model_lives.proofs.SoundCalls.{legal_after}

-- the later history is the earlier one with more entries
pub record Extends (F G : History) : Type 0 where
  pub more : List Dated
  pub is : more ++ F ≡ G

-- each history extends itself
pub extends_refl : (F : History) → Extends F F
extends_refl F = record { more = []; is = refl }

-- longer and longer
pub extends_trans : (F G H : History) → Extends F G → Extends G H → Extends F H
extends_trans F G H p q = record { more = q.more ++ p.more; is = append_assoc q.more p.more F ∙ ap (λ t. q.more ++ t) p.is ∙ q.is }

-- entries make a history longer
pub extends_record_all : (m : ℕ) (es : List Entry) (F : History) → Extends F (record_all m es F)
extends_record_all m [] F = extends_refl F
extends_record_all m (e ∷ es) F =
    extends_trans F _ _ (record { more = record { date = m; entry = e } ∷ []; is = refl }) (extends_record_all m es (record { date = m; entry = e } ∷ F))

-- so does a call
pub extends_after : (F : History) (call : Call) → Extends F (after F call)
extends_after F call = extends_record_all (moment_of call.at F) (decide F call).entries F

-- and so does an event
extends_event : (start : History) (e : Event) (es : List Event) → Extends (history start es) (history start (e ∷ es))
extends_event start e es = grind (arith, extends_after)

-- a history extends those before it
pub extends_earlier : (start : History) (later earlier : List Event) → Extends (history start earlier) (history start (later ++ earlier))
extends_earlier start [] es = extends_refl (history start es)
extends_earlier start (e ∷ later) es = extends_trans _ _ _ (extends_earlier start later es) (extends_event start e (later ++ es))

-- what came first stays first
first_stays : {X : Type 0} (fact : Dated → Option X) (more F : List Dated) (x : X) → first fact F ≡ Some x → first fact (more ++ F) ≡ Some x
first_stays fact [] F x h = h
first_stays fact (e ∷ es) F x h = ap (λ o. earlier o (fact e)) (first_stays fact es F x h) ∙ earlier-some x (fact e)

-- and so in each longer history
pub first-extends : {X : Type 0} (fact : Dated → Option X) (F G : History) (x : X) → Extends F G → first fact F ≡ Some x → first fact G ≡ Some x
first-extends fact F G x p h = ap (first fact) (sym p.is) ∙ first_stays fact p.more F x h

-- ---- what holds over every life

-- the calls that a life keeps are those of its beginning and later ones
kept_later : (later earlier : List Event) → (calls : List Call) × (kept_calls (later ++ earlier) ≡ calls ++ kept_calls earlier)
kept_later [] es = ([], refl)
kept_later (Replied c r ∷ later) es = let (cs, p) = kept_later later es in (c ∷ cs, ap (λ l. c ∷ l) p)
kept_later (Faulted c ∷ later) es = kept_later later es
kept_later (Stopped c true ∷ later) es = let (cs, p) = kept_later later es in (c ∷ cs, ap (λ l. c ∷ l) p)
kept_later (Stopped c false ∷ later) es = kept_later later es
kept_later (Reopened ∷ later) es = kept_later later es

-- the history after some events is made by the calls that they keep
of_calls : (start : History) (life : List Event) → history start life ≡ made_by start (kept_calls life)
of_calls start [] = refl
of_calls start (Replied c r ∷ es) = ap (λ H. after H c) (of_calls start es)
of_calls start (Faulted c ∷ es) = of_calls start es
of_calls start (Stopped c true ∷ es) = ap (λ H. after H c) (of_calls start es)
of_calls start (Stopped c false ∷ es) = of_calls start es
of_calls start (Reopened ∷ es) = of_calls start es

-- what was acknowledged stays
pub acknowledged_stays : AcknowledgedStays
acknowledged_stays start later es c r life = grind (arith, of_calls, (kept_later later (Replied c r ∷ es)))

-- the life up to some time
pub life_before : (start : History) (later earlier : List Event) → IsLife start (later ++ earlier) → IsLife start earlier
life_before start [] es life = life
life_before start (e ∷ later) es life = life_before start later es life.1

-- each acknowledged reply is the one decided
pub replies_are_decided : RepliesAreDecided
replies_are_decided start later es c r life = (life_before start later (Replied c r ∷ es) life).0.3

-- each history is made by whole calls
pub histories_are_of_calls : HistoriesAreOfCalls
histories_are_of_calls start life is = of_calls start life

-- each history is legal
pub histories_are_legal : HistoriesAreLegal
histories_are_legal start [] life = life
histories_are_legal start (Replied c r ∷ es) life = legal_after (history start es) c (histories_are_legal start es life.1) life.0.1 life.0.2
histories_are_legal start (Faulted c ∷ es) life = histories_are_legal start es life.1
histories_are_legal start (Stopped c true ∷ es) life = legal_after (history start es) c (histories_are_legal start es life.1) life.0.1 life.0.2
histories_are_legal start (Stopped c false ∷ es) life = histories_are_legal start es life.1
histories_are_legal start (Reopened ∷ es) life = histories_are_legal start es life.1
