-- Which rows an INTEGER column can take: each number is at most 2^63 - 1.
use Rattle.std.specs.Prelude.{ℕ, ◌<◌, ◌^◌, List, [], ◌∷◌, Option, option_map}
use Rattle.desk_model.specs.{Kept.EachOf, declared.objects.Nonce.Nonce, declared.rows.AccountRow.AccountRow, declared.rows.AuthorizationRow.AuthorizationRow}
use Rattle.desk_model.specs.{declared.rows.ChallengeRow.ChallengeRow, declared.rows.Listed.Listed, declared.rows.Meta.Meta, declared.rows.OrderRow.OrderRow}
use Rattle.store_columns.specs.{Limits.IfRecorded, declared.columns.AnswerKey.AnswerKey, declared.columns.Owned.Owned}

-- a number
abbrev pub Fits : ℕ → Type 0
Fits n = n < 2 ^ 63

-- the row of `meta`
pub record FitsMeta (row : Meta) : Type 0 where
  pub nonce_life : Fits row.policy.nonce_life
  pub order_life : Fits row.policy.order_life
  pub authz_life : Fits row.policy.authz_life
  pub clock : Fits row.counters.clock
  pub nonces : Fits row.counters.nonces
  pub accounts : Fits row.counters.accounts
  pub orders : Fits row.counters.orders
  pub authorizations : Fits row.counters.authorizations
  pub challenges : Fits row.counters.challenges

-- a row of `nonce`
pub record FitsNonce (row : Nonce) : Type 0 where
  pub serial : Fits row.serial
  pub issued : Fits row.issued

-- each of these numbers, and of these dates each that is recorded
pub record FitAll (numbers : List ℕ) (dates : List (Option ℕ)) : Type 0 where
  pub each : EachOf Fits numbers
  pub dated : EachOf (IfRecorded Fits) dates

-- a row of `account`
abbrev pub FitsAccount : AccountRow → Type 0
FitsAccount row = FitAll (row.number ∷ row.opened ∷ []) (option_map (λ end. end.date) row.ended ∷ [])

-- a row of `ord`
abbrev pub FitsOrder : OrderRow → Type 0
FitsOrder row =
    FitAll (row.number ∷ row.account ∷ row.made ∷ row.expires ∷ [])
    (option_map (λ kept. kept.date) row.finalized ∷ option_map (λ kept. kept.date) row.certified ∷ option_map (λ failure. failure.date) row.failed ∷ [])

-- a row of `authz`
abbrev pub FitsAuthorization : AuthorizationRow → Type 0
FitsAuthorization row = FitAll (row.number ∷ row.account ∷ row.made ∷ row.expires ∷ []) (option_map (λ end. end.date) row.ended ∷ [])

-- a row of `ord_authz`
abbrev pub FitsListed : Owned Listed → Type 0
FitsListed row = FitAll (row.owner ∷ row.row.place ∷ row.row.authorization ∷ []) []

-- a row of `chall`
abbrev pub FitsChallenge : Owned ChallengeRow → Type 0
FitsChallenge row =
    FitAll (row.row.number ∷ row.owner ∷ [])
    (option_map (λ answer. answer.date) row.row.answered ∷ option_map (λ report. report.date) row.row.reported ∷ [])

-- a row of `chall_key`
abbrev pub FitsKey : AnswerKey → Type 0
FitsKey row = Fits row.challenge
