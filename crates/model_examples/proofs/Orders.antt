-- The first order, and what its names make (RFC 8555, 7.1.3, 7.1.4, 7.4): its names are read once, for its verdict.
use Rattle.std.specs.Prelude.{◌≡◌, ℕ, List, [], ◌∷◌, map, codes, Option, Some, None, if◌then◌else◌, not, nat_lt, ◌*◌, refl}
use Rattle.std.proofs.Common.{ap, ◌∙◌}
use Rattle.desk_model.specs.{Decide.Decision, Decide.after, Decide.decide, Decide.nonce_entries, Decide.passed_decision, Decide.tables_after, Run.Ran}
use Rattle.desk_model.specs.{Run.and_reply, Run.count_pieces, Run.run, Run.unless_faulty, History.record_all, Legal.numbers_fit, Names.name_of, Tables.Tables}
use Rattle.desk_model.specs.{Rules.new_order_verdict, Rules.wanted, declared.verdict.Verdict.Verdict, declared.verdict.Verdict.TheVariants.Orders as orders}
use Rattle.model_examples.proofs.{Computing.computing, PlainNames.plain_name}
use Rattle.model_examples.specs.Orders.{ordering, example_org, any_example_org, FirstOrder, EnoughRandom, ShortRandomKeepsNonce, ShortRandomRecordsNothing}
use Rattle.model_examples.specs.Orders.{FirstCalls}
use Rattle.model_examples.specs.{Accounts.with_fifth_nonce, Calls.zeros, Computed.computed, Entries.History, Fifty.identifier}

-- each spelling is read
upper_case : name_of (codes "Example.ORG") ≡ Some example_org
upper_case = plain_name _ refl

-- a name in lower case
lower_case : name_of (codes "example.org") ≡ Some example_org
lower_case = plain_name _ refl

-- a wildcard
wildcard : name_of (codes "*.example.org") ≡ Some any_example_org
wildcard = plain_name _ refl

-- so the order is taken: names that are equal keep their first place, a wildcard stands apart
taken : (T : Tables) (random : List ℕ)
    → new_order_verdict T random 1 (map identifier (codes "Example.ORG" ∷ codes "example.org" ∷ codes "*.example.org" ∷ []))
    ≡ orders 1 (wanted T 1 (example_org ∷ any_example_org ∷ []) random)
unfolding computing
taken T random = simp (upper_case, lower_case, wildcard)

-- the tables after the nonce was spent and one issued
abbrev before : ℕ → Tables
before count = tables_after 0 (nonce_entries 4 (zeros count)) with_fifth_nonce

-- the decision on the order with so many random bytes, by its verdict
abbrev decided : ℕ → Verdict → Decision
decided count v = passed_decision with_fifth_nonce 0 (zeros count) 4 v

-- the history after it
abbrev history_by : ℕ → Verdict → History
history_by count v = record_all 0 (decided count v).entries with_fifth_nonce

-- its fault
abbrev fault_by : ℕ → Verdict → Option ℕ
fault_by count v =
    if not (numbers_fit (history_by count v)) then Some 26
    else (if nat_lt count (16 * count_pieces (decided count v).entries) then Some 25 else None)

-- the run of the order alone, by its fault
abbrev run_by : ℕ → Option ℕ → Ran
run_by count f =
    unless_faulty f with_fifth_nonce (and_reply (decide with_fifth_nonce (ordering count)).reply (run (after with_fifth_nonce (ordering count)) []))

-- the first order: names that are equal keep their first place, a wildcard stands apart
pub first_order : FirstOrder
unfolding computing
first_order = ap (λ v. computed (decided 64 v)) (taken (before 64) (zeros 48))

-- 64 random bytes are enough: 16 for the nonce and 16 for each of three challenges
pub enough_random : EnoughRandom
unfolding computing
enough_random = ap (fault_by 64) (taken (before 64) (zeros 48))

-- with one less the call has a fault, and records nothing
pub short_random_keeps_nonce : ShortRandomKeepsNonce
unfolding computing
short_random_keeps_nonce = ap (fault_by 63) (taken (before 63) (zeros 47))

-- a call with a fault has no reply, and its nonce stays open
pub short_random_records_nothing : ShortRandomRecordsNothing
unfolding computing
short_random_records_nothing = ap (run_by 63) short_random_keeps_nonce

-- the desk gets there by the calls that were shown, in their order
pub first_calls : FirstCalls
unfolding computing
first_calls = ap (λ f. (run_by 64 f).history) enough_random ∙ ap (history_by 64) (taken (before 64) (zeros 48))
