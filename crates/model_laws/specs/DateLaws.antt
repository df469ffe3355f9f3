-- When the rows of a history are dated.
use Rattle.std.specs.Prelude.{ℕ, ◌≤◌, IfSome}
use Rattle.desk_model.specs.{Kept.EachOf, Tables.Tables}
use Rattle.desk_model.specs.declared.rows.{AccountRow.AccountRow, AuthorizationRow.AuthorizationRow, ChallengeRow.ChallengeRow, OrderRow.OrderRow}

-- no date of the account is after this moment
pub record IsAccountDatedBy (t : ℕ) (row : AccountRow) : Type 0 where
  pub opened : row.opened ≤ t
  pub ended : IfSome row.ended (λ e. e.date ≤ t)

-- no date of the challenge
pub record IsChallengeDatedBy (t : ℕ) (row : ChallengeRow) : Type 0 where
  pub answered : IfSome row.answered (λ a. a.date ≤ t)
  pub reported : IfSome row.reported (λ r. r.date ≤ t)

-- no date of the authorization and its challenges, but for its expiry
pub record IsAuthorizationDatedBy (t : ℕ) (row : AuthorizationRow) : Type 0 where
  pub made : row.made ≤ t
  pub ended : IfSome row.ended (λ e. e.date ≤ t)
  pub challenges : EachOf (IsChallengeDatedBy t) row.challenges

-- no date of the order, but for its expiry
pub record IsOrderDatedBy (t : ℕ) (row : OrderRow) : Type 0 where
  pub made : row.made ≤ t
  pub finalized : IfSome row.finalized (λ k. k.date ≤ t)
  pub certified : IfSome row.certified (λ k. k.date ≤ t)
  pub failed : IfSome row.failed (λ f. f.date ≤ t)

-- no date of a row
pub record AreDatedBy (t : ℕ) (T : Tables) : Type 0 where
  pub nonces : EachOf (λ n. n.issued ≤ t) T.nonces
  pub accounts : EachOf (IsAccountDatedBy t) T.accounts
  pub authorizations : EachOf (IsAuthorizationDatedBy t) T.authorizations
  pub orders : EachOf (IsOrderDatedBy t) T.orders
