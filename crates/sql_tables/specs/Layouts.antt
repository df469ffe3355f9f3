-- How the rows of each table are kept.
use Rattle.std.specs.Prelude.{◌≡◌, ℕ, ℤ, List, map}
use Rattle.sqlite.specs.{Effect.Database, Order.Row}
use Rattle.sqlite_schema.specs.declared.schema.Table.{Table}
use Rattle.store_columns.specs.declared.columns.{AnswerKey.AnswerKey, Owned.Owned}
use Rattle.model_laws.specs.Ordered.{Ascends}
use Rattle.desk_model.specs.declared.{objects.Nonce.Nonce, rows.AccountRow.AccountRow, rows.AuthorizationRow.AuthorizationRow, rows.ChallengeRow.ChallengeRow}
use Rattle.desk_model.specs.declared.{rows.Listed.Listed, rows.Meta.Meta, rows.OrderRow.OrderRow}
use Rattle.sql_schema.specs.Schema.{account_table, authz_table, chall_key_table, chall_table, desk_schema, meta_table, nonce_table, ord_authz_table, ord_table}
use Rattle.sql_tables.specs.Hidden.{hidden, number}
use Rattle.sql_tables.specs.Images.{account_image, authorization_image, challenge_image, formatted_image, key_image}
use Rattle.sql_tables.specs.Images.{listed_cells, meta_image, nonce_image, order_image}

-- the table of these rows, the number that is the key, and a row as the engine keeps it
pub record Layout (X : Type 0) : Type 0 where
  pub table : Table
  pub key : X → ℕ
  pub image : X → Row

-- the keys rise, so none comes twice
abbrev pub IsRising : {X : Type 0} → (X → ℕ) → List X → Type 0
IsRising key rows = Ascends key 0 rows

-- the database has the schema of a desk, and the table has these rows, in the order of their keys
pub record HasRows {X : Type 0} (L : Layout X) (db : Database) (rows : List X) : Type 0 where
  pub schema : db.schema ≡ desk_schema
  pub rows_are : db.trees L.table.tree ≡ map L.image rows
  pub rising : IsRising L.key rows

-- ---- each table

-- its one row
abbrev pub meta_layout : Layout Meta
meta_layout = record { table = meta_table; key = λ _. 1; image = meta_image }

-- its one row, in any format
abbrev pub formatted_layout : Layout (ℤ × Meta)
formatted_layout = record { table = meta_table; key = λ _. 1; image = formatted_image }

-- nonces, by serial
abbrev pub nonce_layout : Layout Nonce
nonce_layout = record { table = nonce_table; key = λ n. n.serial; image = nonce_image }

-- accounts, by number
abbrev pub account_layout : Layout AccountRow
account_layout = record { table = account_table; key = λ a. a.number; image = account_image }

-- orders, by number
abbrev pub order_layout : Layout OrderRow
order_layout = record { table = ord_table; key = λ o. o.number; image = order_image }

-- authorizations, by number
abbrev pub authorization_layout : Layout AuthorizationRow
authorization_layout = record { table = authz_table; key = λ a. a.number; image = authorization_image }

-- what orders list, by the hidden row number
abbrev pub listed_layout : Layout (ℕ × Owned Listed)
listed_layout = record { table = ord_authz_table; key = number; image = hidden listed_cells }

-- challenges, by number
abbrev pub challenge_layout : Layout (Owned ChallengeRow)
challenge_layout = record { table = chall_table; key = λ c. c.row.number; image = challenge_image }

-- keys of answers, by the number of the challenge
abbrev pub key_layout : Layout AnswerKey
key_layout = record { table = chall_key_table; key = λ k. k.challenge; image = key_image }
