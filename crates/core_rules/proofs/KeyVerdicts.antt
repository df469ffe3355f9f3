-- Verdicts on signed requests, by the account of the request's key.
use Rattle.std.proofs.Common.{◌≡◌, ℕ, List, [], true, false, ap}
use Rattle.desk_model.specs.{Rules.holder_verdict, Rules.target_verdict, Tables.Tables, Account.is_valid, declared.call.Target.Target}
use Rattle.desk_model.specs.{declared.rows.AccountRow.AccountRow}
use Rattle.desk_model.specs.{declared.verdict.Verdict.TheVariants.Refused as refused, Verdict.check}
use Rattle.desk_model.specs.declared.refusal.Refusal.TheVariants as refusal
pub use Rattle.core_rules.specs.Needs.{IsJudged}

-- a request of the holder of a valid account
pub holder-valid : (T : Tables) (r p : List ℕ) (t : Target) (a : AccountRow) → is_valid a.status ≡ true →
    holder_verdict T r p t a ≡ target_verdict T r a.number p t
unfolding check
holder-valid T r p t a is = ap (λ b. check b refusal.Unauthorized (target_verdict T r a.number p t)) is

-- and of one that has ended
pub holder-ended : (T : Tables) (r p : List ℕ) (t : Target) (a : AccountRow) → is_valid a.status ≡ false →
    holder_verdict T r p t a ≡ refused refusal.Unauthorized []
unfolding check
holder-ended T r p t a is = ap (λ b. check b refusal.Unauthorized (target_verdict T r a.number p t)) is
