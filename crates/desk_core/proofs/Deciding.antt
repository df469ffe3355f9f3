-- From what the code answers by rows to what is promised against histories.
use Rattle.std.proofs.Common.{◌≡◌, ℕ, ◌*◌, ◌<◌, ◌≤◌, List, [], ◌∷◌, ◌++◌, length, refl, None, sym, ap, subst, ◌∙◌, arith, length-append, rules}
use Rattle.std.specs.Prelude.{IsTrue}
use Rattle.desk_model.specs.{Entry.History, Nonce.nonces, Account.accounts, Order.orders, History.clock, History.moment_of, History.record_all, Legal.Legal}
use Rattle.desk_model.specs.{Legal.EachFollows, Legal.numbers_fit, Limits.last_moment, Limits.last_number, Authorization.authorizations, Tables.Tables}
use Rattle.desk_model.specs.{Tables.picture, Tables.tables_at, Change.applied, Change.recorded_changes, Decide.decide, Decide.after, Decide.tables_after}
use Rattle.desk_model.specs.{Effect.effects, Effect.swept, Run.fault, Run.count_pieces, Run.IsFormedCall, declared.call.Call.Call, declared.reply.Reply.Reply}
use Rattle.desk_model.specs.{declared.rows.Change.Change, declared.rows.Counters.Counters, declared.entry.Entry.Entry, declared.verdict.Verdict.Verdict}
use Rattle.desk_model.specs.{declared.entry.Entry.TheVariants.Issued as issued, declared.entry.Entry.TheVariants.Spent as spent}
use Rattle.model_laws.specs.{News.AreNews, News.AreKept, News.AreNewChildren, LegalLaws.CountersFit}
use Rattle.model_laws.proofs.{KeptInOrder.records_keep, NewChildren.records_bring_new_children, NewsInOrder.records_put_news, Recorded.recorded, Step.steps}
use Rattle.model_laws.proofs.{Step.sweep, Keeps.counters_fit}
use Rattle.model_lives.proofs.SoundCalls.{moment_later, call_follows, legal_by_numbers}
use Rattle.desk_core.specs.{HasTexts.HasTexts, Decided.IsDecision, SameRows.SameRows}
use Rattle.core_rules.specs.Needs.{NumbersSpent}

-- no fault, from its three tests
pub faultless : (F : History) (call : Call) → call.at ≤ last_moment → IsTrue (numbers_fit (after F call))
    → 16 * count_pieces (decide F call).entries ≤ length call.random →
    fault F call ≡ None
faultless F call at fits enough = search rules

-- ---- numbers

-- the counters of a legal history fit
pub counters : (F : History) → Legal F → CountersFit (picture F).meta.counters
counters F legal = counters_fit F legal.numbered (clock F)

-- the numbers after some entries
pub fits_issued : (F : History) (m : ℕ) (r : List ℕ) → CountersFit (picture F).meta.counters → length (nonces F) < last_number
    → CountersFit (picture (record { date = m; entry = issued r } ∷ F)).meta.counters
fits_issued F m r h lt = search (rules, length-append)

-- an entry that gives no number
pub fits_same : (F G : History) → nonces F ≡ nonces G ++ [] → accounts F ≡ accounts G ++ [] → orders F ≡ orders G ++ [] →
    authorizations F ≡ authorizations G ++ [] → CountersFit (picture G).meta.counters → CountersFit (picture F).meta.counters
fits_same F G n a o z h = search rules

-- they do when a nonce was spent
fits_spent : (F : History) (m n : ℕ) → CountersFit (picture F).meta.counters → CountersFit (picture (record { date = m; entry = spent n } ∷ F)).meta.counters
fits_spent F m n h = fits_same (record { date = m; entry = spent n } ∷ F) F refl refl refl refl h

-- a spent nonce adds none
nonces_stay : (F : History) (m n : ℕ) → length (nonces (record { date = m; entry = spent n } ∷ F)) ≡ length (nonces F)
nonces_stay F m n = omega (arith, length-append (nonces F) [])

-- the numbers after a nonce was spent and one issued
pub fits_nonces : (F : History) (m n : ℕ) (r : List ℕ) → CountersFit (picture F).meta.counters → length (nonces F) < last_number →
    CountersFit (picture (record_all m (spent n ∷ issued r ∷ []) F)).meta.counters
fits_nonces F m n r h lt = fits_issued (record { date = m; entry = spent n } ∷ F) m r (fits_spent F m n h) (omega (arith, nonces_stay F m n))

-- a verdict that spent the numbers of some counters spent those of equal ones, whatever their nonces
pub spent_same : (C D : Counters) (v : Verdict) → C.accounts ≡ D.accounts → C.orders ≡ D.orders → C.authorizations ≡ D.authorizations
    → C.challenges ≡ D.challenges → NumbersSpent D v → NumbersSpent C v
spent_same C D v h k l g e = search rules

-- ---- tables

-- the tables at a moment, by the picture
pub now_is : (F : History) (call : Call) → tables_at F (moment_of call.at F) ≡ swept (moment_of call.at F) (picture F)
now_is F call = sweep F (clock F) (moment_of call.at F) (moment_later F call)

-- moments that have texts in some rows have them in the same rows
pub texts_same : (T U : Tables) → SameRows T U → HasTexts T → HasTexts U
texts_same T U same texts = search rules

-- ---- decisions

-- a decision that records these entries
pub decides : (F : History) (call : Call) (e : Entry) (es : List Entry) (changes : List Change) (reply : Reply) → Legal F
    → IsFormedCall call → call.at ≤ last_moment →
    (decide F call).entries ≡ e ∷ es → IsTrue (numbers_fit (record_all (moment_of call.at F) (e ∷ es) F)) → 16 * count_pieces (e ∷ es) ≤ length call.random →
    changes ≡ recorded_changes (moment_of call.at F) (picture F) (e ∷ es) →
    (EachFollows (record_all (moment_of call.at F) (e ∷ es) F) → reply ≡ (decide F call).reply) →
    IsDecision F call changes reply
decides F call e es changes reply legal formed at is fits enough made replies =
    let grown : record_all (moment_of call.at F) (e ∷ es) F ≡ after F call = ap (λ l. record_all (moment_of call.at F) l F) (sym is) in
    let numbers : IsTrue (numbers_fit (after F call)) = subst (λ G. IsTrue (numbers_fit G)) grown fits in
    let bytes : 16 * count_pieces (decide F call).entries ≤ length call.random = subst (λ l. 16 * count_pieces l ≤ length call.random) (sym is) enough in
    let follows : EachFollows (after F call) = call_follows F call legal formed at bytes in
    let makes : applied changes (picture F) ≡ picture (after F call) =
    ap (λ cs. applied cs (picture F)) made
    ∙ recorded F e es (moment_of call.at F) (moment_later F call) (subst EachFollows (sym grown) follows)
    ∙ ap picture grown in
    record {
      faultless = faultless F call at numbers bytes;
      replies = replies (subst EachFollows (sym grown) follows);
      recorded = made ∙ ap (recorded_changes (moment_of call.at F) (picture F)) (sym is);
      quiet = λ empty. let differ : e ∷ es ≡ [] = sym is ∙ empty in cc;
      news =
          subst (AreNews (picture F)) (sym made)
          (records_put_news F e es (moment_of call.at F) (moment_later F call) (subst EachFollows (sym grown) follows));
      kept =
          subst (AreKept (picture F)) (sym made)
          (records_keep F e es (moment_of call.at F) (moment_later F call) (subst EachFollows (sym grown) follows));
      fresh =
          subst (AreNewChildren (picture F)) (sym made)
          (records_bring_new_children F e es (moment_of call.at F) (moment_later F call) (subst EachFollows (sym grown) follows));
      makes = makes;
      stays_legal = legal_by_numbers F call legal follows numbers;
    }

-- a decision that records nothing
pub decides_none : (F : History) (call : Call) (changes : List Change) (reply : Reply) → Legal F → call.at ≤ last_moment →
    (decide F call).entries ≡ [] → changes ≡ [] → reply ≡ (decide F call).reply → IsDecision F call changes reply
decides_none F call changes reply legal at is none said = grind arith

-- the tables after some entries, by the picture
pub after_is : (F : History) (call : Call) (es : List Entry) → EachFollows (record_all (moment_of call.at F) es F) →
    tables_after (moment_of call.at F) es F ≡ effects (moment_of call.at F) (swept (moment_of call.at F) (picture F)) es
after_is F call es follows = steps F es (moment_of call.at F) follows ∙ ap (λ T. effects (moment_of call.at F) T es) (now_is F call)
