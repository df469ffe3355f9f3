-- Rows in the limits of their columns, each with the rows that belong to it, and changes that put such rows.
use Rattle.store_columns.specs.Limits.{IsNumber, IsStoredAccount, IsStoredAuthorization, IsStoredChallenge, IsStoredKey, IsStoredListed}
use Rattle.store_columns.specs.Limits.{IsStoredMeta, IsStoredNonce, IsStoredOrder}
use Rattle.desk_model.specs.{Kept.EachOf, Tables.Tables}
use Rattle.desk_model.specs.declared.rows.{AuthorizationRow.AuthorizationRow, Change.Change, OrderRow.OrderRow}
use Rattle.desk_model.specs.declared.rows.Change.TheVariants.{PutMeta, PutNonce, RemoveNonce, PutAccount, PutAuthorization, PutOrder}
use Rattle.store_columns.specs.Flat.{bare_row, key_rows, owned_by, without_challenges, without_listed}

-- an authorization, its challenges, and the keys of their answers
pub record IsAuthorizationInLimits (row : AuthorizationRow) : Type 0 where
  pub columns : IsStoredAuthorization (without_challenges row)
  pub challenges : EachOf (λ c. IsStoredChallenge (bare_row c)) (owned_by row.number row.challenges)
  pub keys : EachOf IsStoredKey (key_rows (owned_by row.number row.challenges))

-- an order and what it lists
pub record IsOrderInLimits (row : OrderRow) : Type 0 where
  pub columns : IsStoredOrder (without_listed row)
  pub listed : EachOf IsStoredListed (owned_by row.number row.listed)

-- each row of the tables
pub record AreInLimits (T : Tables) : Type 0 where
  pub meta : IsStoredMeta T.meta
  pub nonces : EachOf IsStoredNonce T.nonces
  pub accounts : EachOf IsStoredAccount T.accounts
  pub authorizations : EachOf IsAuthorizationInLimits T.authorizations
  pub orders : EachOf IsOrderInLimits T.orders

-- the row that the change puts, or the number of the nonce that it removes
abbrev pub IsPutInLimits : Change → Type 0
IsPutInLimits (PutMeta row) = IsStoredMeta row
IsPutInLimits (PutNonce row) = IsStoredNonce row
IsPutInLimits (RemoveNonce serial) = IsNumber serial
IsPutInLimits (PutAccount row) = IsStoredAccount row
IsPutInLimits (PutAuthorization row) = IsAuthorizationInLimits row
IsPutInLimits (PutOrder row) = IsOrderInLimits row
