-- The columns of each table: that what is read of a row is what stands in it, and that it fits the table.
use Rattle.std.proofs.Common.{ℕ, List, [], ◌∷◌, ◌≡◌, ℤ, Option, arith, rules}
use Rattle.sqlite.specs.declared.types.Value.TheVariants.{Int, Text}
use Rattle.sqlite_value.specs.Order.{Row}
use Rattle.sqlite_sql.specs.Term.{Term, col}
use Rattle.store_columns.specs.declared.columns.{AccountColumns.AccountColumns, AuthzColumns.AuthzColumns, ChallColumns.ChallColumns}
use Rattle.store_columns.specs.declared.columns.{ChallKeyColumns.ChallKeyColumns, MetaColumns.MetaColumns, NonceColumns.NonceColumns}
use Rattle.store_columns.specs.declared.columns.{OrderAuthzColumns.OrderAuthzColumns, OrderColumns.OrderColumns, OrderSummaryColumns.OrderSummaryColumns}
use Rattle.store_columns.specs.TextColumns.{HasTextAccount, HasTextAuthorization, HasTextChallenge, HasTextMeta, HasTextOrder, HasTextSummary}
use Rattle.sql_tables.specs.Images.{account_params, authorization_params, challenge_params, int_or_null, key_params, listed_params, meta_params, nonce_params}
use Rattle.sql_tables.specs.Images.{order_params, text_or_null}
use Rattle.sql_read.specs.Spelled.{account_in, authorization_in, bytes_or_none, challenge_in, number_or_none, order_in}
use Rattle.sql_read.specs.Spelled.{FitsAccount, FitsAuthorization, FitsChallenge, FitsKey, FitsListed, FitsMeta, FitsNonce, FitsOrder, FitsSummary}

-- ---- values, read back

-- a number or NULL
number_back : (o : Option ℤ) → number_or_none (int_or_null o) ≡ o
number_back o = search rules

-- a text or NULL
text_back : (o : Option (List ℕ)) → bytes_or_none (text_or_null o) ≡ o
text_back o = search rules

-- ---- rows, read back, where columns may be NULL

-- `account`
pub account_back : (c : AccountColumns) → account_in (account_params c) ≡ c
account_back c = λ i. record c { ended = number_back c.ended i; end_kind = text_back c.end_kind i }

-- `ord`
pub order_back : (c : OrderColumns) → order_in (order_params c) ≡ c
order_back c = grind arith

-- `authz`
pub authorization_back : (c : AuthzColumns) → authorization_in (authorization_params c) ≡ c
authorization_back c = λ i. record c { ended = number_back c.ended i; end_kind = text_back c.end_kind i }

-- `chall`
pub challenge_back : (c : ChallColumns) → challenge_in (challenge_params c) ≡ c
challenge_back c = grind arith

-- ---- what a statement shows of each table

-- the columns of `meta`; an INTEGER PRIMARY KEY stands at place 0, and NULL at its own
abbrev pub meta_project : List Term
meta_project = col 1 0 ∷ col 1 2 ∷ col 1 3 ∷ col 1 4 ∷ col 1 5 ∷ col 1 6 ∷ col 1 7 ∷ col 1 8 ∷ col 1 9 ∷ col 1 10 ∷ col 1 11 ∷ col 1 12 ∷ []

-- those of `nonce`
abbrev pub nonce_project : List Term
nonce_project = col 1 0 ∷ col 1 2 ∷ col 1 3 ∷ []

-- those of `account`
abbrev pub account_project : List Term
account_project = col 1 0 ∷ col 1 2 ∷ col 1 3 ∷ col 1 4 ∷ col 1 5 ∷ col 1 6 ∷ col 1 7 ∷ []

-- those of `ord`
abbrev pub order_project : List Term
order_project = col 1 0 ∷ col 1 2 ∷ col 1 3 ∷ col 1 4 ∷ col 1 5 ∷ col 1 6 ∷ col 1 7 ∷ col 1 8 ∷ col 1 9 ∷ col 1 10 ∷ col 1 11 ∷ []

-- those of an order in summary
abbrev pub summary_project : List Term
summary_project = col 1 0 ∷ col 1 2 ∷ col 1 3 ∷ col 1 4 ∷ col 1 11 ∷ []

-- what is shown of it
abbrev pub summary_params : OrderSummaryColumns → Row
summary_params c = Int c.num ∷ Int c.account ∷ Int c.made ∷ Int c.expires ∷ Text c.status ∷ []

-- those of `authz`
abbrev pub authorization_project : List Term
authorization_project = col 1 0 ∷ col 1 2 ∷ col 1 3 ∷ col 1 4 ∷ col 1 5 ∷ col 1 6 ∷ col 1 7 ∷ col 1 8 ∷ col 1 9 ∷ []

-- those of `chall`
abbrev pub challenge_project : List Term
challenge_project = col 1 0 ∷ col 1 2 ∷ col 1 3 ∷ col 1 4 ∷ col 1 5 ∷ col 1 6 ∷ col 1 7 ∷ col 1 8 ∷ []

-- those of `chall_key`
abbrev pub key_project : List Term
key_project = col 1 0 ∷ col 1 2 ∷ []

-- those of `ord_authz`, behind the hidden number
abbrev pub listed_project : List Term
listed_project = col 1 1 ∷ col 1 2 ∷ col 1 3 ∷ []

-- where `status` stands in the row of an order as the table has it, behind its key and the place of that, NULL
abbrev pub order_status_at : ℕ
order_status_at = 11

-- in the row of an authorization
abbrev pub authorization_status_at : ℕ
authorization_status_at = 9

-- in the row of a challenge
abbrev pub challenge_status_at : ℕ
challenge_status_at = 8

-- ---- rows that fit

-- `meta`
pub meta_fits : (c : MetaColumns) → HasTextMeta c → FitsMeta (meta_params c)
meta_fits c h = search rules

-- `nonce`
pub nonce_fits : (c : NonceColumns) → Unit {0} → FitsNonce (nonce_params c)
nonce_fits c h = ((omega arith, tt), (omega arith, tt), (omega arith, tt))

-- `account`
pub account_fits : (c : AccountColumns) → HasTextAccount c → FitsAccount (account_params c)
account_fits c h = grind arith

-- `ord`
pub order_fits : (c : OrderColumns) → HasTextOrder c → FitsOrder (order_params c)
order_fits c h = grind arith

-- an order in summary
pub summary_fits : (c : OrderSummaryColumns) → HasTextSummary c → FitsSummary (summary_params c)
summary_fits c h = ((omega arith, tt), (omega arith, tt), (omega arith, tt), (omega arith, tt), (omega arith, h))

-- `authz`
pub authorization_fits : (c : AuthzColumns) → HasTextAuthorization c → FitsAuthorization (authorization_params c)
authorization_fits c h = grind arith

-- `ord_authz`
pub listed_fits : (c : OrderAuthzColumns) → Unit {0} → FitsListed (listed_params c)
listed_fits c h = ((omega arith, tt), (omega arith, tt), (omega arith, tt))

-- `chall`
pub challenge_fits : (c : ChallColumns) → HasTextChallenge c → FitsChallenge (challenge_params c)
challenge_fits c h = grind arith

-- `chall_key`
pub key_fits : (c : ChallKeyColumns) → Unit {0} → FitsKey (key_params c)
key_fits c h = ((omega arith, tt), (omega arith, tt))
