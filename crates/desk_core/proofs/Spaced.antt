-- The tokens that verdicts take: one for each challenge of a new order, and none else.
use Rattle.std.proofs.Common.{◌≡◌, ◌≤◌, ◌+◌, ◌*◌, ℕ, length, List, [], ◌∷◌, Option, arith, rules}
use Rattle.desk_model.specs.Rules.{wanted, wanted_by, left_by, signed_verdict, kept, names_in, office_verdict}
use Rattle.desk_model.specs.{Decide.entries_of, Name.Name, Run.count_pieces, Tables.Tables, Kept.EachOf, Questions.serving_on}
use Rattle.desk_model.specs.declared.call.OfficeAsk.{OfficeAsk}
use Rattle.desk_model.specs.declared.{call.Signed.Signed, call.Target.Target, rows.AuthorizationRow.AuthorizationRow, rows.Counters.Counters}
use Rattle.desk_model.specs.declared.{verdict.Verdict.Verdict, verdict.Verdict.TheVariants.Opens as opens, verdict.Verdict.TheVariants.Orders as orders}
use Rattle.model_lives.proofs.Judged.{OfAccount, OfOffice, OfRequest, office_judged, request_judged}
use Rattle.core_rules.specs.Needs.{HasTokens, IsSpaced, NumbersLeft, BytesLeft}

-- ---- signed requests

-- names that are wanted have their tokens, however many bytes there are
pub wanted_spaced : (T : Tables) (account : ℕ) (ns : List Name) (r : List ℕ) → EachOf HasTokens (wanted T account ns r)
wanted_spaced T account [] r = tt
wanted_spaced T account (n ∷ ns) r =
    (by (serving_on T account n), wanted_spaced T account ns (left_by (serving_on T account n) n r))
  where
    by : (o : Option AuthorizationRow) → HasTokens (wanted_by o n r)
    by o = grind arith

-- a request of an account
account_way : (T : Tables) (r : List ℕ) (n : ℕ) (p : List ℕ) (t : Target) (v : Verdict) → OfAccount T r n p t v → IsSpaced v
account_way T r n p t v (OfAccount.ordered ids is few pass) = wanted_spaced T n (kept (names_in ids)) r
account_way T r n p t v _ = tt

-- by each way of a signed request
request_way : (T : Tables) (r : List ℕ) (s : Signed) (t : Target) (v : Verdict) → OfRequest T r s t v → IsSpaced v
request_way T r s t v (OfRequest.held u w key x is found valid way) = account_way T r x.number s.payload t v way
request_way T r s t v _ = tt

-- a signed request
pub signed_spaced : (T : Tables) (r : List ℕ) (s : Signed) → IsSpaced (signed_verdict T r s)
signed_spaced T r s = request_way T r s s.target (signed_verdict T r s) (request_judged T r s)

-- ---- the other asks

-- the verdict makes no account and no order
abbrev pub IsQuiet : Verdict → Type 0
IsQuiet (opens key contacts) = ⊥
IsQuiet (orders account wanted) = ⊥
IsQuiet _ = Unit {0}

-- what carries no nonce
office_way : (T : Tables) (a : OfficeAsk) (v : Verdict) → OfOffice T a v → IsQuiet v
office_way T a v (OfOffice.declined b why) = tt
office_way T a v _ = tt

-- so each of them is
office_quiet : (T : Tables) (a : OfficeAsk) → IsQuiet (office_verdict T a)
office_quiet T a = office_way T a (office_verdict T a) (office_judged T a)

-- such a verdict takes no tokens
quiet_spaced : (v : Verdict) → IsQuiet v → IsSpaced v
quiet_spaced v h = search rules

-- no numbers
quiet_numbers : (C : Counters) (v : Verdict) → IsQuiet v → NumbersLeft C v
quiet_numbers C v h = search rules

-- and no random bytes
quiet_bytes : (v : Verdict) → IsQuiet v → count_pieces (entries_of v) ≡ 0
quiet_bytes v h = grind arith

-- so it is for what carries no nonce: no tokens,
pub office_spaced : (T : Tables) (a : OfficeAsk) → IsSpaced (office_verdict T a)
office_spaced T a = quiet_spaced (office_verdict T a) (office_quiet T a)

-- no numbers
pub no_numbers : (C : Counters) (a : OfficeAsk) (T : Tables) → NumbersLeft C (office_verdict T a)
no_numbers C a T = quiet_numbers C (office_verdict T a) (office_quiet T a)

-- and no random bytes
pub no_bytes : (a : OfficeAsk) (T : Tables) → count_pieces (entries_of (office_verdict T a)) ≡ 0
no_bytes a T = quiet_bytes (office_verdict T a) (office_quiet T a)

-- ---- random bytes

-- where there are bytes for the tokens of an order, and for a nonce, there are for both
bytes_enough : (random : List ℕ) (v : Verdict) → IsSpaced v → BytesLeft random v → 16 ≤ length random → 16 * (1 + count_pieces (entries_of v)) ≤ length random
bytes_enough random v h k l = grind arith

-- a signed request
pub pieces_bounded : (T : Tables) (r : List ℕ) (s : Signed) (random : List ℕ) → BytesLeft random (signed_verdict T r s) → 16 ≤ length random →
    16 * (1 + count_pieces (entries_of (signed_verdict T r s))) ≤ length random
pieces_bounded T r s random = bytes_enough random (signed_verdict T r s) (signed_spaced T r s)
