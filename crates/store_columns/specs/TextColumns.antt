-- Which columns are TEXT: what stands in them is UTF-8.
use Rattle.std.specs.Prelude.{IsUtf8, IfSome}
use Rattle.desk_model.specs.{Kept.EachOf, Texts.HoldsTextAccount, Texts.HoldsTextAuthorization, Texts.HoldsTextMeta, Texts.HoldsTextOrder}
use Rattle.store_columns.specs.declared.columns.{AccountColumns.AccountColumns, AuthzColumns.AuthzColumns, ChallColumns.ChallColumns, MetaColumns.MetaColumns}
use Rattle.store_columns.specs.declared.columns.{OrderColumns.OrderColumns, StoredRows.StoredRows, FlatRows.FlatRows, OrderSummaryColumns.OrderSummaryColumns}

-- each text of the rows is UTF-8; the other tables hold none
pub record RowsHoldTexts (rows : FlatRows) : Type 0 where
  pub metas : EachOf HoldsTextMeta rows.metas
  pub accounts : EachOf HoldsTextAccount rows.accounts
  pub orders : EachOf HoldsTextOrder rows.orders
  pub authorizations : EachOf HoldsTextAuthorization rows.authorizations

-- the TEXT column of `meta`
abbrev pub HasTextMeta : MetaColumns → Type 0
HasTextMeta columns = IsUtf8 columns.base

-- those of `account`
pub record HasTextAccount (columns : AccountColumns) : Type 0 where
  pub jwk : IsUtf8 columns.jwk
  pub contacts : IsUtf8 columns.contacts
  pub end_kind : IfSome columns.end_kind IsUtf8
  pub status : IsUtf8 columns.status

-- those of `ord`
pub record HasTextOrder (columns : OrderColumns) : Type 0 where
  pub problem : IfSome columns.problem IsUtf8
  pub status : IsUtf8 columns.status

-- that of an order in summary
abbrev pub HasTextSummary : OrderSummaryColumns → Type 0
HasTextSummary columns = IsUtf8 columns.status

-- those of `authz`
pub record HasTextAuthorization (columns : AuthzColumns) : Type 0 where
  pub name : IsUtf8 columns.name
  pub end_kind : IfSome columns.end_kind IsUtf8
  pub status : IsUtf8 columns.status

-- those of `chall`
pub record HasTextChallenge (columns : ChallColumns) : Type 0 where
  pub kind : IsUtf8 columns.kind
  pub outcome : IfSome columns.outcome IsUtf8
  pub status : IsUtf8 columns.status

-- each TEXT column of each row is UTF-8; `nonce`, `ord_authz` and `chall_key` have none
pub record ColumnsAreTexts (columns : StoredRows) : Type 0 where
  pub metas : EachOf HasTextMeta columns.metas
  pub accounts : EachOf HasTextAccount columns.accounts
  pub orders : EachOf HasTextOrder columns.orders
  pub authzs : EachOf HasTextAuthorization columns.authzs
  pub challs : EachOf HasTextChallenge columns.challs
