-- What a stored row keeps: its numbers are in their limits, and its texts have their forms.
use Rattle.std.specs.Prelude.{◌≡◌, ◌≤◌, ℕ, List, [], length, Option, None, Some, ⊤, IsTrue}
use Rattle.desk_model.specs.{Legal.is_problem_kind, Terms.are_terms, Keys.IsKeyText, Kept.EachOf, BaseName.is_base_name}
use Rattle.desk_model.specs.Limits.{last_end, last_moment, last_number}
use Rattle.desk_model.specs.declared.{call.OrderProblem.OrderProblem, objects.AccountEnd.AccountEnd, objects.AuthorizationEnd.AuthorizationEnd}
use Rattle.desk_model.specs.declared.{objects.Nonce.Nonce, objects.Report.Report, rows.AccountRow.AccountRow, rows.AuthorizationRow.AuthorizationRow}
use Rattle.desk_model.specs.declared.{rows.DatedBytes.DatedBytes, rows.DatedProblem.DatedProblem, rows.Listed.Listed, rows.Meta.Meta, rows.OrderRow.OrderRow}
use Rattle.store_columns.specs.Flat.{summarized}
use Rattle.store_columns.specs.declared.columns.{AnswerKey.AnswerKey, BareChallenge.BareChallenge, FlatRows.FlatRows, Owned.Owned}

-- the number of an object
abbrev pub IsNumber : ℕ → Type 0
IsNumber n = (1 ≤ n) × (n ≤ last_number)

-- the last number given
abbrev pub IsCounter : ℕ → Type 0
IsCounter n = n ≤ last_number

-- a moment, in seconds since 1970
abbrev pub IsMoment : ℕ → Type 0
IsMoment n = n ≤ last_moment

-- a moment and a life
abbrev pub IsExpiry : ℕ → Type 0
IsExpiry n = n ≤ last_end

-- the random bytes of a nonce, or a token
abbrev pub IsSixteen : List ℕ → Type 0
IsSixteen bytes = length bytes ≡ 16

-- a thumbprint
abbrev pub IsThirtyTwo : List ℕ → Type 0
IsThirtyTwo bytes = length bytes ≡ 32

-- a fact that is recorded keeps this
abbrev pub IfRecorded : {X : Type 0} → (X → Type 0) → Option X → Type 0
IfRecorded P None = ⊤
IfRecorded P (Some x) = P x

-- how an account ended is dated
abbrev pub IsAccountEnd : AccountEnd → Type 0
IsAccountEnd end = IsMoment end.date

-- how an authorization ended is dated
abbrev pub IsAuthorizationEnd : AuthorizationEnd → Type 0
IsAuthorizationEnd end = IsMoment end.date

-- a report is dated
abbrev pub IsReport : Report → Type 0
IsReport report = IsMoment report.date

-- bytes that were handed in are dated
abbrev pub AreDatedBytes : DatedBytes → Type 0
AreDatedBytes kept = IsMoment kept.date

-- a problem of a type that the signing office may hand in
abbrev pub IsProblem : OrderProblem → Type 0
IsProblem problem = IsTrue (is_problem_kind problem.kind)

-- why an order failed is dated, and such a problem
abbrev pub IsDatedProblem : DatedProblem → Type 0
IsDatedProblem failure = IsMoment failure.date × IsProblem failure.problem

-- a row of `meta`
pub record IsStoredMeta (row : Meta) : Type 0 where
  pub policy : IsTrue (are_terms row.policy)
  pub clock : IsMoment row.counters.clock
  pub nonces : IsCounter row.counters.nonces
  pub accounts : IsCounter row.counters.accounts
  pub orders : IsCounter row.counters.orders
  pub authorizations : IsCounter row.counters.authorizations
  pub challenges : IsCounter row.counters.challenges

-- a row of `nonce`
pub record IsStoredNonce (row : Nonce) : Type 0 where
  pub serial : IsNumber row.serial
  pub random : IsSixteen row.random
  pub issued : IsMoment row.issued

-- a row of `account`
pub record IsStoredAccount (row : AccountRow) : Type 0 where
  pub number : IsNumber row.number
  pub key : IsKeyText row.key
  pub opened : IsMoment row.opened
  pub ended : IfRecorded IsAccountEnd row.ended

-- a row of `ord`; what it lists stands in a table of its own
pub record IsStoredOrder (row : OrderRow) : Type 0 where
  pub number : IsNumber row.number
  pub account : IsNumber row.account
  pub made : IsMoment row.made
  pub expires : IsExpiry row.expires
  pub listed : row.listed ≡ []
  pub finalized : IfRecorded AreDatedBytes row.finalized
  pub certified : IfRecorded AreDatedBytes row.certified
  pub failed : IfRecorded IsDatedProblem row.failed

-- an order in summary
pub record IsStoredSummary (row : OrderRow) : Type 0 where
  pub number : IsNumber row.number
  pub account : IsNumber row.account
  pub made : IsMoment row.made
  pub expires : IsExpiry row.expires
  pub bare : summarized row ≡ row

-- a row of `authz`; its challenges stand in a table of their own
pub record IsStoredAuthorization (row : AuthorizationRow) : Type 0 where
  pub number : IsNumber row.number
  pub account : IsNumber row.account
  pub name : IsTrue (is_base_name row.name.base)
  pub made : IsMoment row.made
  pub expires : IsExpiry row.expires
  pub ended : IfRecorded IsAuthorizationEnd row.ended
  pub challenges : row.challenges ≡ []

-- a row of `ord_authz`
pub record IsStoredListed (row : Owned Listed) : Type 0 where
  pub order : IsNumber row.owner
  pub place : 1 ≤ row.row.place
  pub authorization : IsNumber row.row.authorization

-- a row of `chall`
pub record IsStoredChallenge (row : Owned BareChallenge) : Type 0 where
  pub number : IsNumber row.row.number
  pub authorization : IsNumber row.owner
  pub token : IsSixteen row.row.token
  pub answered : IfRecorded IsMoment row.row.answered
  pub reported : IfRecorded IsReport row.row.reported

-- a row of `chall_key`
pub record IsStoredKey (row : AnswerKey) : Type 0 where
  pub challenge : IsNumber row.challenge
  pub thumb : IsThirtyTwo row.thumb

-- each row of each table is in its limits
pub record AreStored (rows : FlatRows) : Type 0 where
  pub metas : EachOf IsStoredMeta rows.metas
  pub nonces : EachOf IsStoredNonce rows.nonces
  pub accounts : EachOf IsStoredAccount rows.accounts
  pub orders : EachOf IsStoredOrder rows.orders
  pub authorizations : EachOf IsStoredAuthorization rows.authorizations
  pub listed : EachOf IsStoredListed rows.listed
  pub challenges : EachOf IsStoredChallenge rows.challenges
  pub keys : EachOf IsStoredKey rows.keys
