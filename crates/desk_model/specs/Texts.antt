-- What a desk keeps as text is UTF-8 (RFC 8555, 5; RFC 8259, 8.1).
use Rattle.std.specs.Prelude.{ℕ, List, IsUtf8, IfSome}
use Rattle.desk_model.specs.{Kept.EachOf, Tables.Tables, declared.call.OrderProblem.OrderProblem}
use Rattle.desk_model.specs.declared.rows.{AccountRow.AccountRow, AuthorizationRow.AuthorizationRow, DatedProblem.DatedProblem, Meta.Meta, OrderRow.OrderRow}

-- each of them is UTF-8
abbrev pub AreTexts : List (List ℕ) → Type 0
AreTexts texts = EachOf IsUtf8 texts

-- both members of a problem are UTF-8
pub record IsTextProblem (problem : OrderProblem) : Type 0 where
  pub kind : IsUtf8 problem.kind
  pub detail : IsUtf8 problem.detail

-- ---- rows

-- the base of a desk's URLs
abbrev pub HoldsTextMeta : Meta → Type 0
HoldsTextMeta row = IsUtf8 row.policy.base

-- the canonical text of an account's key, and its contacts
pub record HoldsTextAccount (row : AccountRow) : Type 0 where
  pub canonical : IsUtf8 row.key
  pub contact : AreTexts row.contacts

-- the name of an authorization
abbrev pub HoldsTextAuthorization : AuthorizationRow → Type 0
HoldsTextAuthorization row = IsUtf8 row.name.base

-- why an order failed, if it did
abbrev pub HoldsTextOrder : OrderRow → Type 0
HoldsTextOrder row = IfSome row.failed (λ (f : DatedProblem). IsTextProblem f.problem)

-- each text of the rows is UTF-8
pub record HoldTexts (T : Tables) : Type 0 where
  pub meta : HoldsTextMeta T.meta
  pub accounts : EachOf HoldsTextAccount T.accounts
  pub authorizations : EachOf HoldsTextAuthorization T.authorizations
  pub orders : EachOf HoldsTextOrder T.orders
