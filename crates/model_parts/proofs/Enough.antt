-- A part for a call answers it as the whole.
use Rattle.std.proofs.Common.{◌≡◌, ◌+◌, ℕ, List, [], ◌∷◌, filter, refl, sym, ap, subst, ◌∙◌, true, Bool, arith, rules}
use Rattle.desk_model.specs.Kept.{Covers, IsClosed, Kept, restricted}
use Rattle.desk_model.specs.declared.entry.Entry.TheVariants.{Issued as issued, Opened as opened, Ordered as ordering, Spent as spent}
use Rattle.desk_model.specs.{Decide.entries_of, Decide.verdict_reply, Effect.effects, Effect.swept, Rules.office_verdict, Tables.Tables, Entry.entry_of}
use Rattle.desk_model.specs.{declared.call.Ask.Ask, declared.call.OfficeAsk.OfficeAsk, declared.call.Call.Call, declared.call.Signed.Signed}
use Rattle.desk_model.specs.{declared.entry.Entry.Entry, declared.entry.Move.Move, Touched.touched, Touched.touched_at, Touched.touched_rows}
use Rattle.desk_model.specs.declared.verdict.Verdict.{Verdict, TheVariants.Opens as opens, TheVariants.Orders as orders, TheVariants.Moves as moves}
use Rattle.desk_model.specs.declared.call.Ask.TheVariants as ask
use Rattle.desk_model.specs.declared.call.OfficeAsk.TheVariants as office
use Rattle.model_laws.specs.{Ordered.IsOrdered, Ordered.IsTable, Parts.CoversAll, Parts.ReusedKept}
use Rattle.model_laws.proofs.Plain.{covers_issued, fresh_kept, issued_closed, issued_effect, left_covers, nonces_covered, spent_closed, spent_effect}
use Rattle.model_laws.proofs.{Basics.each, Basics.each_all, Chain.effects_part, Chain.recorded_local, Local.filter_all, Local.swept_part, Recorded.below_filter}
use Rattle.model_laws.proofs.{RowLists.ascends_filter, SweptParts.swept_closed}
use Rattle.model_parts.specs.AnswersAs.{AnswersAs, CarriesOutAs, IssuesAs, PassesAs, SettlesAs}
use Rattle.model_parts.specs.{IsPart.IsPartFor, IsPart.Keeps, Thinned.all_challenges}
use Rattle.model_parts.proofs.Grown.{grown, grown_closed, grown_part, keeps_falling, keeps_named, keeps_restated, keeps_rows, keeps_touched}
use Rattle.model_parts.proofs.{Listed.KeepsListed, Lists.each_passes, Lists.filtered_each, Thin.whole_authorizations, Ready.IsAnswered, Ready.IsReady}
use Rattle.model_parts.proofs.Ready.{swept_names}
use Rattle.model_parts.proofs.{Verdicts.nonce_same, Verdicts.office_same, Verdicts.signed_same, Walks.IsNoWork, Walks.office_answered, Walks.signed_answered}

-- ---- rows by number

-- a part of a table stands by number
table_part : {X : Type 0} (number : X → ℕ) (last : ℕ) (p : X → Bool) (xs : List X) → IsTable number last xs → IsTable number last (filter p xs)
table_part number last p xs h = (ascends_filter number p 1 xs h.0, below_filter number p (last + 1) xs h.1)

-- so do all tables of a part
pub restricted_ordered : (k : Kept) (T : Tables) → IsOrdered T → IsOrdered (restricted k T)
restricted_ordered k T h = search (rules, table_part)

-- and a part for a call
pub parts_ordered : (T P : Tables) (call : Call) → IsOrdered T → IsPartFor call T P → IsOrdered P
parts_ordered T P call h part = subst IsOrdered (sym part.cut) (restricted_ordered part.kept T h)

-- ---- entries, on a part that is ready

-- what an entry touches is kept
entry_covered : (k : Kept) (m : ℕ) (S : Tables) (e : Entry) → IsClosed k S → ReusedKept k e → Covers k S e → CoversAll k m S (e ∷ [])
entry_covered k m S e closed again covers = (closed, covers, fresh_kept k S m e closed again, tt)

-- a move uses nothing again
move_reuses : (k : Kept) (v : Move) → ReusedKept k (entry_of v)
move_reuses k v = grind arith

-- what the verdict's entry touches is kept
verdict_covered : (k : Kept) (m : ℕ) (S : Tables) (v : Verdict) → IsClosed k S → IsAnswered k m S v → CoversAll k m S (entries_of v)
verdict_covered k m S v h l = grind (arith, entry_covered)

-- also after a nonce was spent and one issued
later_covered : (k : Kept) (m : ℕ) (S : Tables) (n : ℕ) (r : List ℕ) (e : Entry) → IsClosed k S → ReusedKept k e → Covers k S e →
    CoversAll k m S (spent n ∷ issued r ∷ e ∷ [])
later_covered k m S n r e closed again covers = search (
  rules,
  issued_closed,
  spent_closed,
  left_covers,
  issued_effect,
  spent_effect,
  nonces_covered,
  fresh_kept,
)

-- the entries of a verdict are covered behind those of nonces
nonce_covered : (k : Kept) (m : ℕ) (S : Tables) (n : ℕ) (r : List ℕ) (v : Verdict) → IsClosed k S → IsAnswered k m S v →
    CoversAll k m S (spent n ∷ issued r ∷ entries_of v)
nonce_covered k m S n r (opens key contacts) closed h = later_covered k m S n r (opened key contacts) closed tt h.0
nonce_covered k m S n r (orders account wanted) closed h = later_covered k m S n r (ordering account wanted) closed h.0 h.1.0
nonce_covered k m S n r (moves v) closed h = later_covered k m S n r (entry_of v) closed (move_reuses k v) h.0
nonce_covered k m S n r _ closed h = nonces_covered k m S n r [] closed tt

-- the reply is the same
reply_same : (k : Kept) (m : ℕ) (S : Tables) (v : Verdict) (index : Bool) → IsAnswered k m S v →
    verdict_reply index (restricted k (effects m S (entries_of v))) v ≡ verdict_reply index (effects m S (entries_of v)) v
reply_same k m S v index h = grind arith

-- a part that stays one is carried out as the whole, where the reply is the same
pub carried_by : (k : Kept) (T : Tables) (m : ℕ) (v : Verdict) →
    effects m (swept m (restricted k T)) (entries_of v) ≡ restricted k (effects m (swept m T) (entries_of v)) →
    ((index : Bool) → verdict_reply index (restricted k (effects m (swept m T) (entries_of v))) v
    ≡ verdict_reply index (effects m (swept m T) (entries_of v)) v) →
    CarriesOutAs m T (restricted k T) v
carried_by k T m v after same = record {
  kept = λ r. k.authorizations r.number;
  challenges = all_challenges;
  authorizations = grind (arith, whole_authorizations);
  ends = grind (arith, filtered_each, each);
  shows = λ index. ap (λ E. verdict_reply index E v) after ∙ same index;
}

-- a verdict that is answered by the part is carried out by it as by the whole
carried_out : (k : Kept) (T : Tables) (m : ℕ) (v : Verdict) → IsClosed k T → IsAnswered k m (swept m T) v → CarriesOutAs m T (restricted k T) v
carried_out k T m v closed h = grind (
  arith,
  carried_by,
  swept_part,
  effects_part,
  reply_same,
  (verdict_covered k m (swept m T) v (swept_closed k T m closed) h),
)

-- ---- each ask

-- a nonce is issued
pub issues_as : (k : Kept) (T : Tables) (m : ℕ) (a : Ask) → IsReady k T m a → IssuesAs m T (restricted k T)
issues_as k T m a ready = search (rules, swept_closed, recorded_local, keeps_falling, covers_issued)

-- what carries no nonce is settled
pub settles_as : (k : Kept) (T : Tables) (m : ℕ) (a : OfficeAsk) → IsNoWork a → IsReady k T m (ask.Office a) → SettlesAs m a T (restricted k T)
settles_as k T m a none ready = search (
  rules,
  office_answered,
  swept_part,
  office_same,
  swept_names,
  carried_out,
  recorded_local,
  keeps_falling,
  verdict_covered,
  swept_closed,
)

-- a signed request passes
pub passes_as : (k : Kept) (T : Tables) (m : ℕ) (s : Signed) → IsReady k T m (ask.Signed s) → PassesAs m s T (restricted k T)
passes_as k T m s ready = search (
  rules,
  swept_names,
  swept_part,
  nonce_same,
  issues_as,
  signed_same,
  carried_out,
  signed_answered,
  recorded_local,
  keeps_falling,
  nonce_covered,
  swept_closed,
)

-- the directory needs no row
directory_as : (k : Kept) (T : Tables) (m : ℕ) → IsClosed k T → SettlesAs m office.Directory T (restricted k T)
directory_as k T m closed = record { judged = refl; verdict = carried_out k T m (office_verdict (swept m T) office.Directory) closed refl; records = refl }

-- all rows are kept
abbrev pub all_rows : Kept
all_rows = record { nonces = λ n. true; accounts = λ n. true; authorizations = λ n. true; orders = λ n. true }

-- a part that keeps all rows is the whole
restricted_all : (k : Kept) (T : Tables) → Keeps k T → restricted k T ≡ T
restricted_all k T h = grind (arith, filter_all)

-- the rows of a part are kept
pub restricted_kept : (k : Kept) (T : Tables) → Keeps k (restricted k T)
restricted_kept k T =
    record {
      nonces = each_passes (λ n. k.nonces n.serial) T.nonces;
      accounts = each_passes (λ a. k.accounts a.number) T.accounts;
      authorizations = each_passes (λ a. k.authorizations a.number) T.authorizations;
      orders = each_passes (λ o. k.orders o.number) T.orders;
    }

-- all rows are kept by what keeps all
keeps_all : (T : Tables) → Keeps all_rows T
keeps_all T = grind (arith, each_all)

-- the whole settles an ask as itself
whole_settles : (T : Tables) (m : ℕ) (a : OfficeAsk) → SettlesAs m a T T
whole_settles T m a =
    let v : Verdict = office_verdict (swept m T) a in
    record {
      judged = refl;
      verdict = record {
        kept = λ r. true;
        challenges = all_challenges;
        authorizations =
            sym (whole_authorizations _
            ∙ filter_all (λ r. true) (effects m (swept m T) (entries_of v)).authorizations
            (each_all _ (effects m (swept m T) (entries_of v)).authorizations (λ r. refl)));
        ends = λ n all. all;
        shows = λ index. refl;
      };
      records = refl;
    }

-- so a part that keeps all rows settles a list of work
pub work_as : (k : Kept) (T : Tables) (m : ℕ) (a : OfficeAsk) → Keeps k T → SettlesAs m a T (restricted k T)
work_as k T m a h = subst (SettlesAs m a T) (sym (restricted_all k T h)) (whole_settles T m a)

-- ---- a part for a call

-- a part that keeps what is touched is ready, with the numbers that no row has
pub ready_by : (k : Kept) (T : Tables) (m : ℕ) (a : Ask) → IsOrdered T → KeepsListed k T → Keeps k (touched_rows T m a) → IsReady (grown k T) T m a
ready_by k T m a ordered listed h = search (rules, keeps_touched, grown_closed, keeps_restated, keeps_named, keeps_rows)

-- where rows are touched
rows_settle : (k : Kept) (T : Tables) (m : ℕ) (a : OfficeAsk) → IsNoWork a → IsOrdered T → KeepsListed k T → Keeps k (touched_rows T m (ask.Office a)) →
    SettlesAs m a T (restricted k T)
rows_settle k T m a none ordered listed h =
    subst (SettlesAs m a T) (grown_part k T) (settles_as (grown k T) T m a none (ready_by k T m (ask.Office a) ordered listed h))

-- so it answers as the whole
pub answers_at : (k : Kept) (T : Tables) (m : ℕ) (a : Ask) → IsOrdered T → KeepsListed k T → Keeps k (touched_at T m a) → AnswersAs m a T (restricted k T)
answers_at k T m (ask.NewNonce head) ordered listed h =
    subst (IssuesAs m T) (grown_part k T) (issues_as (grown k T) T m (ask.NewNonce head) (ready_by k T m (ask.NewNonce head) ordered listed h))
answers_at k T m (ask.Signed s) ordered listed h =
    subst (PassesAs m s T) (grown_part k T) (passes_as (grown k T) T m s (ready_by k T m (ask.Signed s) ordered listed h))
answers_at k T m (ask.Office office.Directory) ordered listed h =
    subst (SettlesAs m office.Directory T) (grown_part k T) (directory_as (grown k T) T m (grown_closed k T ordered listed))
answers_at k T m (ask.Office office.ChallengeWork) ordered listed h = work_as k T m office.ChallengeWork h
answers_at k T m (ask.Office office.OrderWork) ordered listed h = work_as k T m office.OrderWork h
answers_at k T m (ask.Office a) ordered listed h = rows_settle k T m a tt ordered listed h

-- all rows are a part for each call
pub whole_part : (T : Tables) (call : Call) → IsPartFor call T T
whole_part T call = record { kept = all_rows; cut = sym (restricted_all all_rows T (keeps_all T)); holds = keeps_all (touched T call) }
