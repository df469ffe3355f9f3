-- The rows of the tables: the parameters of a statement, in the order of the columns, and the row as the engine keeps it.
use Rattle.std.specs.Prelude.{ℕ, ℤ, List, Option, [], ◌∷◌, ◌++◌, drop}
use Rattle.sqlite.specs.declared.types.Value.TheVariants.{Null, Int, Text, Blob}
use Rattle.sqlite.specs.{declared.types.Value.Value, Order.Row, Values.or_null}
use Rattle.store_columns.specs.Columns.{account_columns, authorization_columns, challenge_columns, key_columns, listed_columns, meta_columns, nonce_columns}
use Rattle.store_columns.specs.Columns.{order_columns}
use Rattle.store_columns.specs.Flat.{bare_row}
use Rattle.store_columns.specs.declared.columns.{AccountColumns.AccountColumns, AuthzColumns.AuthzColumns, ChallColumns.ChallColumns}
use Rattle.store_columns.specs.declared.columns.{ChallKeyColumns.ChallKeyColumns, MetaColumns.MetaColumns, NonceColumns.NonceColumns}
use Rattle.store_columns.specs.declared.columns.{OrderAuthzColumns.OrderAuthzColumns, OrderColumns.OrderColumns, AnswerKey.AnswerKey, Owned.Owned}
use Rattle.desk_model.specs.declared.{objects.Nonce.Nonce, rows.AccountRow.AccountRow, rows.AuthorizationRow.AuthorizationRow, rows.ChallengeRow.ChallengeRow}
use Rattle.desk_model.specs.declared.{rows.Listed.Listed, rows.Meta.Meta, rows.OrderRow.OrderRow}

-- ---- values

-- NULL for no number
abbrev pub int_or_null : Option ℤ → Value
int_or_null = or_null (λ n. Int n)

-- NULL for no text
abbrev pub text_or_null : Option (List ℕ) → Value
text_or_null = or_null (λ t. Text t)

-- NULL for no bytes
abbrev pub blob_or_null : Option (List ℕ) → Value
blob_or_null = or_null (λ b. Blob b)

-- the engine keeps an INTEGER PRIMARY KEY in front of the columns, and NULL in its column
abbrev pub keyed : Row → Row
keyed [] = []
keyed (key ∷ rest) = key ∷ Null ∷ rest

-- ---- `meta`

-- the columns that no call moves
abbrev pub meta_kept : MetaColumns → Row
meta_kept c = Int c.format ∷ Text c.base ∷ Int c.nonce_life ∷ Int c.order_life ∷ Int c.authz_life ∷ []

-- the key, and those that calls move
abbrev pub meta_updates : MetaColumns → Row
meta_updates c = Int c.id ∷ Int c.clock ∷ Int c.nonces ∷ Int c.accounts ∷ Int c.orders ∷ Int c.authzs ∷ Int c.challs ∷ []

abbrev pub meta_params : MetaColumns → Row
meta_params c = Int c.id ∷ (meta_kept c ++ drop 1 (meta_updates c))

abbrev pub meta_image : Meta → Row
meta_image row = keyed (meta_params (meta_columns row))

-- the columns of a row of this format
abbrev pub formatted_columns : ℤ × Meta → MetaColumns
formatted_columns row = record (meta_columns row.1) { format = row.0 }

-- the row in this format
abbrev pub formatted_image : ℤ × Meta → Row
formatted_image row = keyed (meta_params (formatted_columns row))

-- ---- `nonce`

abbrev pub nonce_params : NonceColumns → Row
nonce_params c = Int c.serial ∷ Blob c.random ∷ Int c.issued ∷ []

abbrev pub nonce_image : Nonce → Row
nonce_image row = keyed (nonce_params (nonce_columns row))

-- ---- `account`

abbrev pub account_params : AccountColumns → Row
account_params c =
    Int c.num ∷ Text c.jwk ∷ Text c.contacts ∷ Int c.opened ∷ int_or_null c.ended ∷ text_or_null c.end_kind ∷ Text c.status ∷ []

-- that which no call moves
abbrev pub account_kept : AccountColumns → Row
account_kept c = Int c.opened ∷ []

-- the key, and those that calls move
abbrev pub account_updates : AccountColumns → Row
account_updates c = Int c.num ∷ Text c.jwk ∷ Text c.contacts ∷ int_or_null c.ended ∷ text_or_null c.end_kind ∷ Text c.status ∷ []

abbrev pub account_image : AccountRow → Row
account_image row = keyed (account_params (account_columns row))

-- ---- `ord`; what an order lists stands in a table of its own

-- the columns that no call moves
abbrev pub order_kept : OrderColumns → Row
order_kept c = Int c.account ∷ Int c.made ∷ Int c.expires ∷ []

-- the key, and those that calls move
abbrev pub order_updates : OrderColumns → Row
order_updates c =
    Int c.num
    ∷ int_or_null c.finalized
    ∷ blob_or_null c.csr
    ∷ int_or_null c.certified
    ∷ blob_or_null c.cert
    ∷ int_or_null c.failed
    ∷ text_or_null c.problem
    ∷ Text c.status
    ∷ []

abbrev pub order_params : OrderColumns → Row
order_params c = Int c.num ∷ (order_kept c ++ drop 1 (order_updates c))

abbrev pub order_image : OrderRow → Row
order_image row = keyed (order_params (order_columns row))

-- ---- `authz`; the challenges stand in a table of their own

-- the columns that no call moves
abbrev pub authorization_kept : AuthzColumns → Row
authorization_kept c = Int c.account ∷ Text c.name ∷ Int c.wildcard ∷ Int c.made ∷ Int c.expires ∷ []

-- the key, and those that calls move
abbrev pub authorization_updates : AuthzColumns → Row
authorization_updates c = Int c.num ∷ int_or_null c.ended ∷ text_or_null c.end_kind ∷ Text c.status ∷ []

abbrev pub authorization_params : AuthzColumns → Row
authorization_params c = Int c.num ∷ (authorization_kept c ++ drop 1 (authorization_updates c))

abbrev pub authorization_image : AuthorizationRow → Row
authorization_image row = keyed (authorization_params (authorization_columns row))

-- ---- `ord_authz`, whose rows the engine numbers

abbrev pub listed_params : OrderAuthzColumns → Row
listed_params c = Int c.ord ∷ Int c.place ∷ Int c.authz ∷ []

-- the columns of a row, without its number
abbrev pub listed_cells : Owned Listed → Row
listed_cells row = listed_params (listed_columns row)

-- ---- `chall`

-- the columns that no call moves
abbrev pub challenge_kept : ChallColumns → Row
challenge_kept c = Int c.authz ∷ Text c.kind ∷ Blob c.token ∷ []

-- the key, and those that calls move
abbrev pub challenge_updates : ChallColumns → Row
challenge_updates c = Int c.num ∷ int_or_null c.answered ∷ int_or_null c.reported ∷ text_or_null c.outcome ∷ Text c.status ∷ []

abbrev pub challenge_params : ChallColumns → Row
challenge_params c = Int c.num ∷ (challenge_kept c ++ drop 1 (challenge_updates c))

abbrev pub challenge_image : Owned ChallengeRow → Row
challenge_image row = keyed (challenge_params (challenge_columns (bare_row row)))

-- ---- `chall_key`

abbrev pub key_params : ChallKeyColumns → Row
key_params c = Int c.chall ∷ Blob c.thumb ∷ []

abbrev pub key_image : AnswerKey → Row
key_image row = keyed (key_params (key_columns row))
