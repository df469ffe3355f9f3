-- The faults that the code answers are those of the model.
use Rattle.std.proofs.Common.{◌≡◌, ℕ, ◌*◌, ◌<◌, ◌≤◌, false, List, [], ◌∷◌, ◌++◌, length, take, drop, max, Option, Some, None, refl, ap, subst, arith}
use Rattle.std.proofs.Common.{length-append, ◌⊎◌, inl, inr, rules}
use Rattle.std.proofs.lemmas.Bool.Decides.{nat_tests}
use Rattle.std.specs.Prelude.{IsTrue}
use Rattle.desk_model.specs.Decide.{Decision, decide, entries_of, nonce_entries}
use Rattle.desk_model.specs.{Entry.History, declared.entry.Entry.Entry, declared.call.Call.Call, declared.call.Signed.Signed, declared.verdict.Verdict.Verdict}
use Rattle.desk_model.specs.{declared.entry.Entry.TheVariants.Issued as issued, History.clock, History.moment_of, History.record_all, Legal.Legal}
use Rattle.desk_model.specs.{Legal.numbers_fit, Limits.last_moment, Limits.last_number, Nonce.nonces, Effect.swept, Rules.open_nonce, Tables.Tables}
use Rattle.desk_model.specs.{Tables.picture, Run.fault, Run.count_pieces, declared.verdict.Verdict.TheVariants.Answers as answers}
use Rattle.desk_model.specs.declared.call.Ask.TheVariants as ask
use Rattle.model_laws.proofs.Recorded.{tables_ordered}
use Rattle.model_laws.specs.Ordered.{IsOrdered}
use Rattle.desk_core.specs.{Decided.IsFaultOf, Room.IsIssueFault, Outcomes.IsPassedFault, Outcomes.IsSignedFault, Outcomes.IsAskFault}
use Rattle.core_rules.specs.{Needs.NumbersSpent, declared.fault.CoreFault.CoreFault}
use Rattle.core_rules.specs.declared.fault.CoreFault.TheVariants as core
use Rattle.desk_core.proofs.{Deciding.counters, Deciding.fits_issued, Deciding.fits_nonces, Deciding.spent_same, DecidingAsks.judged, DecidingAsks.judged_left}
use Rattle.desk_core.proofs.{DecidingAsks.passed_is, DecidingAsks.signed_is, NumbersAfter.numbers_left, NumbersAfter.numbers_spent, Parts.faults_whole}
use Rattle.desk_core.proofs.{Spaced.signed_spaced, QuietRows.nonce_rows, QuietRows.nonces_more}
use Rattle.model_parts.proofs.Work.{enough_ordered}
use Rattle.model_parts.specs.{AnswersAs.AnswersAs, IsEnough.IsEnoughFor}

-- too many nonces
nonces_over : (G : History) → last_number < length (nonces G) → numbers_fit G ≡ false
nonces_over G h = search rules

-- fault 26, and fault 25
is_full : (F : History) (call : Call) (es : List Entry) → call.at ≤ last_moment → (decide F call).entries ≡ es
    → numbers_fit (record_all (moment_of call.at F) es F) ≡ false →
    fault F call ≡ Some 26
is_full F call es at is over = search rules

-- a call with fewer random bytes than its entries take has the fault 25
is_short : (F : History) (call : Call) (es : List Entry) → call.at ≤ last_moment → (decide F call).entries ≡ es
    → IsTrue (numbers_fit (record_all (moment_of call.at F) es F)) →
    length call.random < 16 * count_pieces es → fault F call ≡ Some 25
is_short F call es at is fits short = grind arith

-- a nonce that is issued and nothing else
issue_faults : (F : History) (call : Call) (e : CoreFault) → Legal F → call.at ≤ last_moment → (decide F call).entries ≡ issued (take 16 call.random) ∷ [] →
    IsIssueFault (picture F) call.random e → IsFaultOf F call e
issue_faults F call e h k l g = grind (arith, nat_tests, length-append, fits_issued)

-- what a verdict records takes no nonce away
nonces_grow : (G : History) (m : ℕ) (v : Verdict) → length (nonces G) ≤ length (nonces (record_all m (entries_of v) G))
nonces_grow G m v = search rules

-- a signed request whose nonce was open
passed_faults : (F : History) (call : Call) (s : Signed) (serial : ℕ) (e : CoreFault) → Legal F → call.at ≤ last_moment →
    (decide F call).entries ≡ nonce_entries serial call.random ++ entries_of (judged F call s) →
    IsPassedFault (picture F) call.random (judged F call s) e → IsFaultOf F call e
passed_faults F call s serial core.Memory legal at is h = tt
passed_faults F call s serial core.Full legal at is h = is_full F call _ at is (over h)
  where
    over : NumbersSpent (picture F).meta.counters (judged F call s) ⊎ (last_number ≤ length (nonces F)) →
        numbers_fit (record_all (moment_of call.at F) (nonce_entries serial call.random ++ entries_of (judged F call s)) F) ≡ false
    over (inl full) =
        numbers_spent (record_all (moment_of call.at F) (nonce_entries serial call.random) F) (moment_of call.at F) (judged F call s)
        (signed_spaced (swept (moment_of call.at F) (picture F)) (drop 16 call.random) s)
        (spent_same (picture (record_all (moment_of call.at F) (nonce_entries serial call.random) F)).meta.counters (picture F).meta.counters (judged F call s)
        (nonce_rows F (moment_of call.at F) serial (take 16 call.random)).last_accounts
        (nonce_rows F (moment_of call.at F) serial (take 16 call.random)).last_orders
        (nonce_rows F (moment_of call.at F) serial (take 16 call.random)).last_authorizations
        (nonce_rows F (moment_of call.at F) serial (take 16 call.random)).last_challenges full)
    over (inr full) =
        nonces_over (record_all (moment_of call.at F) (nonce_entries serial call.random ++ entries_of (judged F call s)) F)
        (omega (
          arith,
          full,
          nonces_more F (moment_of call.at F) serial (take 16 call.random),
          nonces_grow (record_all (moment_of call.at F) (nonce_entries serial call.random) F) (moment_of call.at F) (judged F call s),
        ))
passed_faults F call s serial core.ShortRandom legal at is h = grind (
  arith,
  is_short,
  numbers_left,
  judged,
  fits_nonces,
  counters,
  signed_spaced,
  judged_left,
  (judged F call s),
  (fits_nonces F (moment_of call.at F) serial (take 16 call.random) (counters F legal) h.0),
  (counters F legal),
  (signed_spaced (swept (moment_of call.at F) (picture F)) (drop 16 call.random) s),
  (judged_left F call serial (judged F call s) h.1),
)

-- a signed request
signed_faults : (F : History) (call : Call) (s : Signed) (e : CoreFault) → Legal F → call.at ≤ last_moment → call.ask ≡ ask.Signed s →
    IsSignedFault (moment_of call.at F) (picture F) call.random s (open_nonce (swept (moment_of call.at F) (picture F)) s.nonce) e → IsFaultOf F call e
signed_faults F call s e legal at asks h = by (open_nonce (swept (moment_of call.at F) (picture F)) s.nonce) refl h
  where
    by : (o : Option ℕ) → open_nonce (swept (moment_of call.at F) (picture F)) s.nonce ≡ o
        → IsSignedFault (moment_of call.at F) (picture F) call.random s o e → IsFaultOf F call e
    by None found h = issue_faults F call e legal at (ap (λ (d : Decision). d.entries) (signed_is F call s asks None found)) h
    by (Some serial) found h =
        passed_faults F call s serial e legal at (ap (λ (d : Decision). d.entries) (passed_is F call s serial (signed_is F call s asks (Some serial) found))) h

-- each ask
asks_fail : (F : History) (call : Call) (e : CoreFault) → Legal F → call.at ≤ last_moment →
    IsAskFault (moment_of call.at F) (picture F) call.random call.ask e → IsFaultOf F call e
asks_fail F call e legal at h = search (rules, issue_faults, signed_faults)

-- the same, as the code has its parts
pub code_fails : (F : History) (call : Call) (B : Tables) (m : ℕ) (random : List ℕ) (e : CoreFault) → Legal F → IsEnoughFor call (picture F) B →
    call.at ≤ last_moment → m ≡ max call.at B.meta.counters.clock → random ≡ call.random →
    (IsOrdered B → IsAskFault m B random call.ask e) → IsFaultOf F call e
code_fails F call B m random e legal part at acts bytes fails =
    let T : Tables = picture F in
    asks_fail F call e legal at
    (faults_whole (max call.at T.meta.counters.clock) part.kept T call.random call.ask e
    (subst (AnswersAs (max call.at T.meta.counters.clock) call.ask T) part.cut part.answers)
    (subst (λ X. IsAskFault (max call.at X.meta.counters.clock) X call.random call.ask e) part.cut
    (subst (λ n. IsAskFault n B call.random call.ask e) acts
    (subst (λ r. IsAskFault m B r call.ask e) bytes (fails (enough_ordered T B call (tables_ordered F (clock F)) part))))))
