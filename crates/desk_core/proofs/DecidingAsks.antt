-- What is promised of each ask.
use Rattle.std.proofs.Common.{◌≡◌, ℕ, ◌+◌, ◌*◌, ◌≤◌, max, true, List, [], ◌∷◌, ◌++◌, length, take, drop, Option, Some, None, refl, sym, ap, subst, ◌∙◌, arith}
use Rattle.std.proofs.Common.{Result, IfOk, IfErr, MatchResult, rules}
use Rattle.std.specs.Prelude.{IsTrue}
use Rattle.desk_model.specs.Decide.{signed_decision, Decision, decide, decide_at, entries_of, nonce_entries, office_decision, passed_decision, verdict_reply}
use Rattle.desk_model.specs.Decide.{tables_after}
use Rattle.desk_model.specs.Shown.{with_nonce, fresh_nonce, refusal_reply, nonce_reply}
use Rattle.desk_model.specs.{Change.recorded_changes, Entry.History, Limits.last_moment, History.clock, History.moment_of, History.record_all, Legal.Legal}
use Rattle.desk_model.specs.{Legal.EachFollows, Legal.numbers_fit, Tables.Tables, Tables.tables_at, Tables.picture, Effect.effects, Effect.swept}
use Rattle.desk_model.specs.{Rules.office_verdict, Rules.signed_verdict, Rules.open_nonce, Run.count_pieces, Run.IsFormedCall}
use Rattle.desk_model.specs.declared.{call.Call.Call, call.Ask.Ask, call.OfficeAsk.OfficeAsk, call.Signed.Signed, reply.Reply.Reply, verdict.Verdict.Verdict}
use Rattle.desk_model.specs.declared.{rows.Change.Change, entry.Entry.Entry, entry.Entry.TheVariants.Issued as issued, entry.Entry.TheVariants.Spent as spent}
use Rattle.desk_model.specs.declared.refusal.Refusal.TheVariants as refusal
use Rattle.desk_model.specs.declared.call.Ask.TheVariants as ask
use Rattle.model_laws.proofs.{Recorded.tables_ordered, Keeps.numbers_fit_counters}
use Rattle.model_laws.specs.Ordered.{IsOrdered}
use Rattle.desk_core.specs.{HasTexts.HasTexts, Decided.IsDecision, SameRows.SameRows}
use Rattle.desk_core.specs.Outcomes.{Issues, Passes, Settles, MeetsSigned, MeetsAsk}
use Rattle.core_rules.specs.Needs.{NumbersLeft}
use Rattle.desk_core.proofs.Deciding.{after_is, counters, decides, decides_none, fits_issued, fits_nonces, now_is, texts_same}
use Rattle.desk_core.proofs.{NumbersAfter.numbers_left, QuietRows.nonce_rows, SameVerdicts.signed_same, Parts.asks_whole, Texts.have_texts}
use Rattle.desk_core.proofs.SameReplies.{effects-append, nonce_effects, verdict_reply_same, verdict_same}
use Rattle.desk_core.proofs.Spaced.{no_bytes, no_numbers, office_spaced, pieces_bounded, signed_spaced}
use Rattle.model_parts.proofs.Work.{enough_ordered}
use Rattle.model_parts.specs.{AnswersAs.AnswersAs, IsEnough.IsEnoughFor}

-- ---- a nonce is issued and nothing else

issues : (F : History) (call : Call) (answer : Reply) (changes : List Change) (reply : Reply) → Legal F → IsFormedCall call → call.at ≤ last_moment →
    (decide F call).entries ≡ issued (take 16 call.random) ∷ [] →
    (decide F call).reply ≡ with_nonce (fresh_nonce (picture F) call.random) answer →
    Issues (moment_of call.at F) (picture F) call.random answer changes reply → IsDecision F call changes reply
issues F call answer changes reply legal formed at entries said h =
    decides F call (issued (take 16 call.random)) [] changes reply legal formed at entries
    (numbers_fit_counters (record { date = moment_of call.at F; entry = issued (take 16 call.random) } ∷ F)
    (clock (record { date = moment_of call.at F; entry = issued (take 16 call.random) } ∷ F))
    (fits_issued F (moment_of call.at F) (take 16 call.random) (counters F legal) h.nonces))
    (let enough : 16 ≤ length call.random = h.bytes in omega arith)
    h.recorded
    (λ follows. h.replies ∙ sym said)

-- ---- requests without a nonce

-- the verdict on one, by the picture
abbrev settled : History → Call → OfficeAsk → Verdict
settled F call a = office_verdict (swept (moment_of call.at F) (picture F)) a

-- its reply is the model's
settles_reply : (F : History) (call : Call) (a : OfficeAsk) (changes : List Change) (reply : Reply) → Legal F →
    decide F call ≡ office_decision F (moment_of call.at F) (settled F call a) →
    Settles (moment_of call.at F) (picture F) (settled F call a) changes reply →
    EachFollows (record_all (moment_of call.at F) (entries_of (settled F call a)) F) → reply ≡ (decide F call).reply
settles_reply F call a changes reply legal is h follows = grind (arith, after_is, tables_ordered, have_texts)

settles : (F : History) (call : Call) (a : OfficeAsk) (changes : List Change) (reply : Reply) → Legal F → IsFormedCall call → call.at ≤ last_moment →
    decide F call ≡ office_decision F (moment_of call.at F) (settled F call a) →
    Settles (moment_of call.at F) (picture F) (settled F call a) changes reply → IsDecision F call changes reply
settles F call a changes reply legal formed at is h =
    by (entries_of (settled F call a)) refl
    (numbers_left F (moment_of call.at F) (settled F call a) (counters F legal) (office_spaced (swept (moment_of call.at F) (picture F)) a)
    (no_numbers (picture F).meta.counters a (swept (moment_of call.at F) (picture F))))
    (no_bytes a (swept (moment_of call.at F) (picture F)))
    (h.recorded (tables_ordered F (clock F)))
    (settles_reply F call a changes reply legal is h)
  where
    by : (es : List Entry) → entries_of (settled F call a) ≡ es →
        IsTrue (numbers_fit (record_all (moment_of call.at F) es F)) → count_pieces es ≡ 0 →
        changes ≡ recorded_changes (moment_of call.at F) (picture F) es →
        (EachFollows (record_all (moment_of call.at F) es F) → reply ≡ (decide F call).reply) → IsDecision F call changes reply
    by [] e fits none made said =
        decides_none F call changes reply legal at (ap (λ (d : Decision). d.entries) is ∙ e) made (said legal.each)
    by (e0 ∷ es) e fits none made said =
        decides F call e0 es changes reply legal formed at (ap (λ (d : Decision). d.entries) is ∙ e) fits (omega (arith, none)) made said

-- ---- signed requests

-- the model's verdict on one whose nonce was open is that by the picture
judged_is : (F : History) (call : Call) (serial : ℕ) (s : Signed) →
    signed_verdict (tables_after (moment_of call.at F) (nonce_entries serial call.random) F) (drop 16 call.random) s
    ≡ signed_verdict (swept (moment_of call.at F) (picture F)) (drop 16 call.random) s
judged_is F call serial s = search (rules, signed_same, nonce_rows, now_is)

abbrev pub judged : History → Call → Signed → Verdict
judged F call s = signed_verdict (swept (moment_of call.at F) (picture F)) (drop 16 call.random) s

-- its numbers, after the nonce's entries
pub judged_left : (F : History) (call : Call) (serial : ℕ) (v : Verdict) → NumbersLeft (picture F).meta.counters v →
    NumbersLeft (picture (record_all (moment_of call.at F) (nonce_entries serial call.random) F)).meta.counters v
judged_left F call serial v h = search rules

-- the model's decision, by the verdict that the code comes to
pub passed_is : (F : History) (call : Call) (s : Signed) (serial : ℕ) → decide F call ≡ signed_decision F (moment_of call.at F) call.random s (Some serial) →
    decide F call ≡ passed_decision F (moment_of call.at F) call.random serial (judged F call s)
passed_is F call s serial is = is ∙ ap (passed_decision F (moment_of call.at F) call.random serial) (judged_is F call serial s)

-- its reply is the model's
passes_reply : (F : History) (call : Call) (s : Signed) (serial : ℕ) (changes : List Change) (reply : Reply) →
    decide F call ≡ passed_decision F (moment_of call.at F) call.random serial (judged F call s) →
    Passes (moment_of call.at F) (picture F) call.random serial (judged F call s) changes reply →
    EachFollows (record_all (moment_of call.at F) (nonce_entries serial call.random ++ entries_of (judged F call s)) F) → reply ≡ (decide F call).reply
passes_reply F call s serial changes reply is h follows =
    let m : ℕ = moment_of call.at F in
    let S : Tables = swept m (picture F) in
    let v : Verdict = judged F call s in
    let grown : tables_after m (nonce_entries serial call.random ++ entries_of v) F
    ≡ effects m (effects m S (nonce_entries serial call.random)) (entries_of v) =
    after_is F call (nonce_entries serial call.random ++ entries_of v) follows ∙ effects-append m S (nonce_entries serial call.random) (entries_of v) in
    let same : SameRows (effects m S (nonce_entries serial call.random)) S = nonce_effects m S serial (take 16 call.random) in
    h.replies (tables_ordered F (clock F))
    (texts_same (effects m (effects m S (nonce_entries serial call.random)) (entries_of v)) (effects m S (entries_of v)) (verdict_same m _ S v same)
    (subst HasTexts grown (have_texts (record_all m (nonce_entries serial call.random ++ entries_of v) F) follows m)))
    ∙ (λ i. with_nonce (fresh_nonce (picture F) call.random)
    ((sym (verdict_reply_same true m (effects m S (nonce_entries serial call.random)) S v same) ∙ ap (λ T. verdict_reply true T v) (sym grown)) i))
    ∙ sym (ap (λ (d : Decision). d.reply) is)

passes : (F : History) (call : Call) (s : Signed) (serial : ℕ) (changes : List Change) (reply : Reply) → Legal F → IsFormedCall call → call.at ≤ last_moment →
    decide F call ≡ signed_decision F (moment_of call.at F) call.random s (Some serial) →
    Passes (moment_of call.at F) (picture F) call.random serial (judged F call s) changes reply → IsDecision F call changes reply
passes F call s serial changes reply legal formed at is h =
    let m : ℕ = moment_of call.at F in
    let S : Tables = swept m (picture F) in
    let v : Verdict = judged F call s in
    let counted : count_pieces (entries_of v) ≡ count_pieces (entries_of v) = refl in
    decides F call (spent serial) (issued (take 16 call.random) ∷ entries_of v) changes reply legal formed at
    (ap (λ (d : Decision). d.entries) (passed_is F call s serial is))
    (numbers_left (record_all m (nonce_entries serial call.random) F) m v (fits_nonces F m serial (take 16 call.random) (counters F legal) h.nonces)
    (signed_spaced S (drop 16 call.random) s) (judged_left F call serial v h.numbers))
    (let enough : 16 * (1 + count_pieces (entries_of v)) ≤ length call.random = pieces_bounded S (drop 16 call.random) s call.random
    h.tokens h.bytes in omega arith)
    (h.recorded (tables_ordered F (clock F)))
    (passes_reply F call s serial changes reply (passed_is F call s serial is) h)

-- the decision on a signed request, by the nonce that its text opens
pub signed_is : (F : History) (call : Call) (s : Signed) → call.ask ≡ ask.Signed s → (o : Option ℕ) →
    open_nonce (swept (moment_of call.at F) (picture F)) s.nonce ≡ o → decide F call ≡ signed_decision F (moment_of call.at F) call.random s o
signed_is F call s asks o e = search (rules, now_is)

-- a signed request
signed_decides : (F : History) (call : Call) (s : Signed) (changes : List Change) (reply : Reply) → Legal F → IsFormedCall call → call.at ≤ last_moment →
    call.ask ≡ ask.Signed s →
    MeetsSigned (moment_of call.at F) (picture F) call.random s (open_nonce (swept (moment_of call.at F) (picture F)) s.nonce) changes reply
    → IsDecision F call changes reply
signed_decides F call s changes reply legal formed at asks h = by (open_nonce (swept (moment_of call.at F) (picture F)) s.nonce) refl h
  where
    by : (o : Option ℕ) → open_nonce (swept (moment_of call.at F) (picture F)) s.nonce ≡ o →
        MeetsSigned (moment_of call.at F) (picture F) call.random s o changes reply → IsDecision F call changes reply
    by None e m =
        issues F call (refusal_reply true refusal.BadNonce []) changes reply legal formed at (ap (λ (d : Decision). d.entries) (signed_is F call s asks None e))
        (ap (λ (d : Decision). d.reply) (signed_is F call s asks None e)) m
    by (Some serial) e m = passes F call s serial changes reply legal formed at (signed_is F call s asks (Some serial) e) m

-- ---- each ask

pub asks_decide : (F : History) (call : Call) (changes : List Change) (reply : Reply) → Legal F → IsFormedCall call → call.at ≤ last_moment →
    MeetsAsk (moment_of call.at F) (picture F) call.random call.ask changes reply → IsDecision F call changes reply
asks_decide F call changes reply legal formed at h = by call.ask refl h
  where
    settled_is : (a : OfficeAsk) → decide F call ≡ office_decision F (moment_of call.at F) (office_verdict (tables_at F (moment_of call.at F)) a) →
        decide F call ≡ office_decision F (moment_of call.at F) (settled F call a)
    settled_is a is = is ∙ ap (λ T. office_decision F (moment_of call.at F) (office_verdict T a)) (now_is F call)

    at_ask : (a : Ask) → call.ask ≡ a → decide F call ≡ decide_at F (moment_of call.at F) call.random a
    at_ask a e = ap (λ x. decide_at F (moment_of call.at F) call.random x) e

    by : (a : Ask) → call.ask ≡ a → MeetsAsk (moment_of call.at F) (picture F) call.random a changes reply → IsDecision F call changes reply
    by (ask.NewNonce head) e m =
        issues F call (nonce_reply head) changes reply legal formed at
        (ap (λ (d : Decision). d.entries) (at_ask (ask.NewNonce head) e)) (ap (λ (d : Decision). d.reply) (at_ask (ask.NewNonce head) e)) m
    by (ask.Signed s) e m = signed_decides F call s changes reply legal formed at e m
    by (ask.Office a) e m = settles F call a changes reply legal formed at (settled_is a (at_ask (ask.Office a) e)) m

-- the same, as the code has its parts
pub code_decides : (F : History) (call : Call) (B : Tables) (m : ℕ) (random : List ℕ) (changes : List Change) (reply : Reply) → Legal F
    → IsEnoughFor call (picture F) B → IsFormedCall call →
    call.at ≤ last_moment → m ≡ max call.at B.meta.counters.clock → random ≡ call.random →
    (IsOrdered B → MeetsAsk m B random call.ask changes reply) → IsDecision F call changes reply
code_decides F call B m random changes reply legal part formed at acts bytes meets =
    let T : Tables = picture F in
    let ordered : IsOrdered B = enough_ordered T B call (tables_ordered F (clock F)) part in
    asks_decide F call changes reply legal formed at
    (asks_whole (max call.at T.meta.counters.clock) part.kept T call.random call.ask changes reply (subst IsOrdered part.cut ordered)
    (subst (AnswersAs (max call.at T.meta.counters.clock) call.ask T) part.cut part.answers)
    (subst (λ X. MeetsAsk (max call.at X.meta.counters.clock) X call.random call.ask changes reply) part.cut
    (subst (λ n. MeetsAsk n B call.random call.ask changes reply) acts
    (subst (λ r. MeetsAsk m B r call.ask changes reply) bytes (meets ordered)))))

-- what a clause on both outcomes gives on the way that went well, and on the other
pub ok_part : {T E A : Type 0} {R : T → Type 0} (P : T → Type 0) (Q : E → Type 0) (r : Result T E) → (A → MatchResult r P Q)
    → ((x : T) → (A → P x) → R x) → IfOk r R
ok_part P Q r h k = search rules

pub err_part : {T E A : Type 0} {R : E → Type 0} (P : T → Type 0) (Q : E → Type 0) (r : Result T E) → (A → MatchResult r P Q)
    → ((e : E) → (A → Q e) → R e) → IfErr r R
err_part P Q r h k = search rules
