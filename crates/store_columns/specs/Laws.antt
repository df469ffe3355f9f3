-- Laws of columns.
use Rattle.std.specs.Prelude.{◌≡◌}
use Rattle.store_columns.specs.Columns.{account_columns, authorization_columns, challenge_columns, key_columns, listed_columns, meta_columns}
use Rattle.store_columns.specs.Columns.{nonce_columns, order_columns, rows_columns, summary_columns}
use Rattle.desk_model.specs.Texts.{HoldsTextAccount, HoldsTextAuthorization, HoldsTextMeta, HoldsTextOrder}
use Rattle.desk_model.specs.declared.rows.{AccountRow.AccountRow, AuthorizationRow.AuthorizationRow, Meta.Meta, OrderRow.OrderRow}
use Rattle.store_columns.specs.TextColumns.{HasTextAccount, HasTextAuthorization, HasTextChallenge, HasTextMeta, HasTextOrder, ColumnsAreTexts, RowsHoldTexts}
use Rattle.store_columns.specs.declared.columns.{BareChallenge.BareChallenge, FlatRows.FlatRows, Owned.Owned}
use Rattle.store_columns.specs.Limits.{AreStored, IsStoredAccount, IsStoredAuthorization, IsStoredChallenge, IsStoredKey, IsStoredListed}
use Rattle.store_columns.specs.Limits.{IsStoredMeta, IsStoredNonce, IsStoredOrder, IsStoredSummary}

-- different rows in their limits have different columns
abbrev pub AreToldApart : {C R : Type 0} → (write : R → C) → (IsStored : R → Type 0) → Type 0
AreToldApart {C} {R} write IsStored = (row other : R) → IsStored row → IsStored other → write row ≡ write other → row ≡ other

-- so have the rows of each table, and of all, and orders in summary
pub record ColumnsTellRowsApart : Type 0 where
  pub metas : AreToldApart meta_columns IsStoredMeta
  pub nonces : AreToldApart nonce_columns IsStoredNonce
  pub accounts : AreToldApart account_columns IsStoredAccount
  pub orders : AreToldApart order_columns IsStoredOrder
  pub summaries : AreToldApart summary_columns IsStoredSummary
  pub authorizations : AreToldApart authorization_columns IsStoredAuthorization
  pub listed : AreToldApart listed_columns IsStoredListed
  pub challenges : AreToldApart challenge_columns IsStoredChallenge
  pub keys : AreToldApart key_columns IsStoredKey
  pub rows : AreToldApart rows_columns AreStored

-- where a row holds texts, its TEXT columns are UTF-8, and so for the rows of all tables
pub record TextsAreWritten : Type 0 where
  pub metas : (row : Meta) → HoldsTextMeta row → HasTextMeta (meta_columns row)
  pub accounts : (row : AccountRow) → HoldsTextAccount row → HasTextAccount (account_columns row)
  pub orders : (row : OrderRow) → HoldsTextOrder row → HasTextOrder (order_columns row)
  pub authorizations : (row : AuthorizationRow) → HoldsTextAuthorization row → HasTextAuthorization (authorization_columns row)
  pub challenges : (row : Owned BareChallenge) → HasTextChallenge (challenge_columns row)
  pub rows : (rows : FlatRows) → RowsHoldTexts rows → ColumnsAreTexts (rows_columns rows)
