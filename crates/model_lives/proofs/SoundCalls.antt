-- What a call records may follow the history, and keeps it legal.
use Rattle.std.proofs.Common.{◌≡◌, ◌≤◌, ◌*◌, ℕ, List, [], ◌∷◌, length, take, drop, Option, Some, None, arith, length-drop}
use Rattle.std.proofs.lemmas.Bool.Decides.{nat_tests}
use Rattle.std.specs.Prelude.{IsTrue}
use Rattle.desk_model.specs.Decide.{Decision, entries_of, nonce_entries, signed_decision, office_decision, passed_decision, tables_after, decide, decide_at}
use Rattle.desk_model.specs.Decide.{after}
use Rattle.desk_model.specs.Run.{fault, count_pieces, IsFormedAsk, IsFormedOfficeAsk, IsFormedCall, IsFormedSigned}
use Rattle.desk_model.specs.{Entry.History, declared.entry.Entry.Entry, declared.verdict.Verdict.Verdict, declared.call.Call.Call, declared.call.Ask.Ask}
use Rattle.desk_model.specs.{declared.call.OfficeAsk.OfficeAsk, declared.call.Signed.Signed, declared.entry.Entry.TheVariants.Issued as issued}
use Rattle.desk_model.specs.{declared.entry.Entry.TheVariants.Spent as spent, History.clock, History.moment_of, History.record_all, Tables.tables_at}
use Rattle.desk_model.specs.{Limits.last_moment, Legal.numbers_fit, Legal.EachFollows, Legal.Legal, Rules.office_verdict, Rules.open_nonce}
use Rattle.model_laws.proofs.{AllowedFacts.legal_grows, Dates.clock_in_time, Recorded.tables_ordered}
use Rattle.model_lives.proofs.Sound.{IsSound, MayRecord, signed_sound, office_sound, open_serial}

-- ---- moments

-- a call acts no earlier than the latest recorded moment
pub moment_later : (F : History) (call : Call) → clock F ≤ moment_of call.at F
moment_later F call = omega arith

-- nor later than the last, where it was made no later
pub moment_in_time : (F : History) (call : Call) → EachFollows F → call.at ≤ last_moment → moment_of call.at F ≤ last_moment
moment_in_time F call each early = let past : clock F ≤ last_moment = clock_in_time F each in omega arith

-- ---- the entries of a call

-- where a verdict is given at a moment
pub record IsMoment (F : History) (m : ℕ) : Type 0 where
  pub each : EachFollows F
  pub later : clock F ≤ m
  pub in_time : m ≤ last_moment

-- an entry that may be recorded
may_follow : (F : History) (m : ℕ) (e : Entry) → IsMoment F m → MayRecord (tables_at F m) e → EachFollows (record_all m (e ∷ []) F)
may_follow F m e now may = legal_grows F e m now.each now.later now.in_time may.later may.formed may.allowed

-- what a verdict records
verdict_follows : (F : History) (m : ℕ) (r : List ℕ) (v : Verdict) → IsMoment F m → IsSound r (tables_at F m) v →
    16 * count_pieces (entries_of v) ≤ length r →
    EachFollows (record_all m (entries_of v) F)
verdict_follows F m r v h k l = grind (arith, may_follow)

-- a fresh nonce of full length is issued
issued_follows : (F : History) (m : ℕ) (r : List ℕ) → IsMoment F m → 16 ≤ length r → EachFollows (record { date = m; entry = issued (take 16 r) } ∷ F)
issued_follows F m r now enough = grind arith

-- an open nonce is spent, and then a fresh one issued
nonces_follow : (F : History) (m : ℕ) (r : List ℕ) (text : Option (List ℕ)) (serial : ℕ) → IsMoment F m → open_nonce (tables_at F m) text ≡ Some serial →
    16 ≤ length r →
    IsMoment (record_all m (nonce_entries serial r) F) m
nonces_follow F m r text serial now is enough =
    grind (arith, (legal_grows F (spent serial) m now.each now.later now.in_time tt tt (open_serial (tables_at F m) text serial is)))

-- the entries of a decision may follow, where there are random bytes enough
abbrev pub DecisionFollows : History → ℕ → List ℕ → Decision → Type 0
DecisionFollows F m random d = 16 * count_pieces d.entries ≤ length random → EachFollows (record_all m d.entries F)

-- a request that has passed the test of its nonce
passed_follows : (F : History) (m : ℕ) (random : List ℕ) (text : Option (List ℕ)) (serial : ℕ) (v : Verdict) → IsMoment F m →
    open_nonce (tables_at F m) text ≡ Some serial → IsSound (drop 16 random) (tables_after m (nonce_entries serial random) F) v →
    DecisionFollows F m random (passed_decision F m random serial v)
passed_follows F m random text serial v now is sound enough =
    verdict_follows (record_all m (nonce_entries serial random) F) m (drop 16 random) v
    (nonces_follow F m random text serial now is (omega arith)) sound (omega (arith, length-drop 16 random))

-- a signed request
signed_follows : (F : History) (m : ℕ) (random : List ℕ) (s : Signed) (o : Option ℕ) → IsMoment F m → IsFormedSigned s →
    open_nonce (tables_at F m) s.nonce ≡ o →
    DecisionFollows F m random (signed_decision F m random s o)
signed_follows F m random s None now formed is enough = issued_follows F m random now (omega arith)
signed_follows F m random s (Some serial) now formed is enough = grind (
  arith,
  passed_follows,
  signed_sound,
  (tables_ordered (record_all m (nonce_entries serial random) F) m),
)

-- what carries no nonce
office_follows : (F : History) (m : ℕ) (random : List ℕ) (a : OfficeAsk) → IsMoment F m → IsFormedOfficeAsk a →
    DecisionFollows F m random (office_decision F m (office_verdict (tables_at F m) a))
office_follows F m random a now formed enough = verdict_follows F m random _ now (office_sound random (tables_at F m) a formed) enough

-- each ask
ask_follows : (F : History) (m : ℕ) (random : List ℕ) (a : Ask) → IsMoment F m → IsFormedAsk a → DecisionFollows F m random (decide_at F m random a)
ask_follows F m random a h k l = grind (arith, signed_follows, office_follows)

-- each entry of a call may follow those before it, whatever numbers it gives
pub call_follows : (F : History) (call : Call) → Legal F → IsFormedCall call → call.at ≤ last_moment →
    16 * count_pieces (decide F call).entries ≤ length call.random →
    EachFollows (after F call)
call_follows F call legal formed early enough = grind (arith, ask_follows, moment_in_time)

-- ---- legal histories stay legal

-- a history whose entries follow and whose numbers fit is legal
pub legal_by_numbers : (F : History) (call : Call) → Legal F → EachFollows (after F call) → IsTrue (numbers_fit (after F call)) → Legal (after F call)
legal_by_numbers F call legal each fits = grind arith

-- a call without a fault keeps the history legal
pub legal_after : (F : History) (call : Call) → Legal F → IsFormedCall call → fault F call ≡ None → Legal (after F call)
legal_after F call legal formed h = grind (arith, nat_tests, legal_by_numbers, call_follows)
