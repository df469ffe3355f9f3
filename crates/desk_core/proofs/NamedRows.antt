-- What a verdict shows or moves is there: it was looked up.
use Rattle.std.proofs.Common.{◌≡◌, ℕ, List, [], ◌∷◌, Bool, true, Option, Some, ap, sym, subst, arith}
use Rattle.std.specs.Prelude.{◌==◌, find, is_some, IsSome, IsSomeAnd}
use Rattle.desk_model.specs.Rules.{office_verdict, own, signed_verdict, kept, names_in}
use Rattle.desk_model.specs.{Questions.account_on, Questions.account_with_key, Tables.Tables, declared.call.OfficeAsk.OfficeAsk, declared.call.Signed.Signed}
use Rattle.desk_model.specs.{declared.call.Target.Target, declared.rows.AccountRow.AccountRow, declared.verdict.Verdict.Verdict}
use Rattle.model_laws.proofs.Serving.{all_may_be_wanted}
use Rattle.model_lives.proofs.Judged.{OfAccount as by, OfOffice as way, OfRequest, office_judged, request_judged}
use Rattle.model_parts.proofs.Lists.{same_number}
use Rattle.desk_core.specs.There.{NamesRows}

-- ---- rows that were found

-- one that is there is found
there : {X : Type 0} (o : Option X) (x : X) → o ≡ Some x → IsSome o
there o x is = ap is_some is

-- one that is found by a test is found by each that it passes
found_by : {X : Type 0} (p q : X → Bool) (xs : List X) (x : X) → q x ≡ true → find p xs ≡ Some x → IsSome (find q xs)
found_by p q [] x h is = cc
found_by {X} p q (y ∷ ys) x h is = grind (arith, (found_by p q ys x h))

-- the account of a key has its number
by_number : (T : Tables) (key : List ℕ) (a : AccountRow) → account_with_key T key ≡ Some a → IsSome (account_on T a.number)
by_number T key a is = found_by _ (λ x. x.number == a.number) T.accounts a (same_number a.number) is

-- ---- signed requests

-- a request of an account that is there
account_way : (T : Tables) (r : List ℕ) (n : ℕ) (p : List ℕ) (t : Target) (v : Verdict) → IsSome (account_on T n) → by T r n p t v → NamesRows T v
account_way T r n p t v own by.known = own
account_way T r n p t v own (by.key_changed c key is held free) = own
account_way T r n p t v own (by.ordered ids is few pass) = all_may_be_wanted T n (kept (names_in ids)) r
account_way T r n p t v own (by.account_read k) = own
account_way T r n p t v own (by.account_ended k here is) = own
account_way T r n p t v own (by.contacts_changed k contacts here is pass) = own
account_way T r n p t v own (by.order_read k o found) = there _ o found
account_way T r n p t v own (by.finalized k o text csr found ready spells) = there _ o found
account_way T r n p t v own (by.certificate_read k o c found has) = subst (λ x. IsSomeAnd x (λ y. IsSome y.certified)) (sym found) (there o.certified c has)
account_way T r n p t v own (by.authorization_read k a found) = there _ a found
account_way T r n p t v own (by.authorization_ended k a found is live) = there _ a found
account_way T r n p t v own (by.challenge_read k a found) = there _ a found
account_way T r n p t v own (by.challenge_answered k a found is waits) = there _ a found
account_way T r n p t v own _ = tt

-- by each way of a signed request
request_way : (T : Tables) (r : List ℕ) (s : Signed) (t : Target) (v : Verdict) → OfRequest T r s t v → NamesRows T v
request_way T r s t v (OfRequest.held u w key x is found valid way) = account_way T r x.number s.payload t v (by_number T key x found) way
request_way T r s t v _ = tt

-- a signed request
pub signed_there : (T : Tables) (r : List ℕ) (s : Signed) → NamesRows T (signed_verdict T r s)
signed_there T r s = request_way T r s s.target (signed_verdict T r s) (request_judged T r s)

-- ---- what carries no nonce

-- what is looked up by its number
office_way : (T : Tables) (a : OfficeAsk) (v : Verdict) → way T a v → NamesRows T v
office_way T a v (way.report_shown n finding x found) = there _ x found
office_way T a v (way.reported n finding x c outcome found has waits) = there _ x found
office_way T a v (way.certificate_shown n bytes o found) = there _ o found
office_way T a v (way.certified n bytes o found low high waits) = there _ o found
office_way T a v (way.failure_shown n problem o found) = there _ o found
office_way T a v (way.failed n problem o found fits waits) = there _ o found
office_way T a v (way.authorization_shown n x found) = there _ x found
office_way T a v (way.authorization_revoked n x found live) = there _ x found
office_way T a v (way.account_shown n x found) = there _ x found
office_way T a v (way.account_revoked n x found valid) = there _ x found
office_way T a v (way.key_shown n x found) = there _ x found
office_way T a v _ = tt

-- so what carries no nonce names rows that are there
pub office_there : (T : Tables) (a : OfficeAsk) → NamesRows T (office_verdict T a)
office_there T a = office_way T a (office_verdict T a) (office_judged T a)
