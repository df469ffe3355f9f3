-- Verdicts that need no numbers and no random bytes.
use Rattle.std.proofs.Common.{◌≡◌, ℕ, List, Bool, true, false, Option, Some, None, Result, Ok, Err, MatchResult, drop, sym, ap, subst, ◌∙◌, arith, rules}
use Rattle.desk_model.specs.Rules.{key_change_verdict, rekey_verdict, target_verdict}
use Rattle.desk_model.specs.{declared.refusal.Refusal.Refusal, declared.call.Signed.Signed, declared.call.Target.Target, declared.payload.KeyChange.KeyChange}
use Rattle.desk_model.specs.{declared.rows.AccountRow.AccountRow, declared.rows.Counters.Counters, declared.verdict.Verdict.Verdict, Payload.key_change}
use Rattle.desk_model.specs.{Questions.account_with_key, Tables.Tables, Verdict.check, Verdict.given, Verdict.unless_fault, Verdict.choose}
use Rattle.identifiers.specs.ReadOnce.{target_key_change}
use Rattle.core_rules.specs.{Needs.NumbersLeft, Needs.BytesLeft, declared.fault.CoreFault.CoreFault}
use Rattle.core_rules.proofs.KeyVerdicts.{IsJudged}
use Rattle.desk_model.specs.declared.call.Target.TheVariants as to
use Rattle.desk_model.specs.declared.refusal.Refusal.TheVariants as refusal
use Rattle.core_rules.specs.declared.fault.CoreFault.TheVariants as fault

-- whatever numbers were given, and whatever random bytes there are
abbrev pub Spares : Verdict → Type 0
Spares v = (C : Counters) (random : List ℕ) → NumbersLeft C v × BytesLeft random v

-- a verdict behind a test
check-spares : (b : Bool) (number : Refusal) (v : Verdict) → Spares v → Spares (check b number v)
unfolding check
check-spares true number v h = h
check-spares false number v h = λ C random. (tt, tt)

-- a verdict on what there may be
given-spares : {X : Type 0} (o : Option X) (number : Refusal) (v : X → Verdict) → ((x : X) → Spares (v x)) → Spares (given o number v)
unfolding given
given-spares None number v h = λ C random. (tt, tt)
given-spares (Some x) number v h = h x

-- a change to a key that another account may have
rekey-spares : (n : ℕ) (key : List ℕ) (o : Option AccountRow) → Spares (rekey_verdict n key o)
rekey-spares n key o = search rules

-- a change of keys
key_change-spares : (T : Tables) (n : ℕ) (c : KeyChange) → Spares (key_change_verdict T n c)
key_change-spares T n c = check-spares _ _ _ (given-spares _ _ _ (λ key. rekey-spares n key (account_with_key T key)))

-- ---- by target, for account n

-- a target that makes no order
abbrev pub IsSparing : Target → Type 0
IsSparing to.NewOrder = ⊥
IsSparing _ = Unit {0}

-- its verdict needs none of them
pub target-spares : (T : Tables) (r : List ℕ) (n : ℕ) (p : List ℕ) (t : Target) → IsSparing t → Spares (target_verdict T r n p t)
unfolding check given unless_fault choose
target-spares T r n p to.NewOrder is = absurd is
target-spares T r n p to.KeyChange is = given-spares (key_change p) refusal.Malformed (key_change_verdict T n) (key_change-spares T n)
target-spares T r n p to.NewAccount is = λ C random. grind arith
target-spares T r n p (to.Account k) is = λ C random. grind arith
target-spares T r n p (to.Orders k) is = λ C random. grind arith
target-spares T r n p (to.Order k) is = λ C random. grind arith
target-spares T r n p (to.Finalize k) is = λ C random. grind arith
target-spares T r n p (to.Cert k) is = λ C random. grind arith
target-spares T r n p (to.Authz k) is = λ C random. grind arith
target-spares T r n p (to.Chall k) is = λ C random. grind arith

-- the verdict of a target that is one of these
pub target-spared : (T : Tables) (random : List ℕ) (n : ℕ) (p : List ℕ) (target reading : Target) → IsSparing reading →
    (v : Verdict) → target ≡ reading → v ≡ target_verdict T (drop 16 random) n p reading →
    (v ≡ target_verdict T (drop 16 random) n p target) × NumbersLeft T.meta.counters v × BytesLeft random v
target-spared T random n p target reading spares v is e =
    let left = subst Spares (sym e) (target-spares T (drop 16 random) n p reading spares) T.meta.counters random in
    (e ∙ ap (target_verdict T (drop 16 random) n p) (sym is), left.0, left.1)

-- and its judgement, where memory alone may lack
pub target-made : (T : Tables) (random : List ℕ) (n : ℕ) (p : List ℕ) (target reading : Target) → IsSparing reading →
    (r : Result Verdict CoreFault) → target ≡ reading → MatchResult r (λ v. v ≡ target_verdict T (drop 16 random) n p reading) (λ e. e ≡ fault.Memory) →
    IsJudged T.meta.counters random r (target_verdict T (drop 16 random) n p target)
target-made T random n p target reading spares (Ok v) is e = target-spared T random n p target reading spares v is e
target-made T random n p target reading spares (Err f) is e = grind arith

-- a request that is another's copy is sent to the other's target
pub sent : {asked signed : Signed} {reading : Target} → asked ≡ signed → asked.target ≡ reading → signed.target ≡ reading
sent same is = ap (λ (s : Signed). s.target) (sym same) ∙ is

-- the verdict on a change of keys, by what was read in its payload
pub asked-change : (T : Tables) (r : List ℕ) (n : ℕ) (p : List ℕ) (target : Target) (asked : Option KeyChange) (result : Result Verdict CoreFault) →
    target ≡ to.KeyChange → asked ≡ target_key_change target p →
    MatchResult result (λ v. v ≡ given asked refusal.Malformed (key_change_verdict T n)) (λ e. e ≡ fault.Memory) →
    MatchResult result (λ v. v ≡ target_verdict T r n p to.KeyChange) (λ e. e ≡ fault.Memory)
asked-change T r n p target asked result is read = search rules
