-- When a database is that of a desk with these tables.
use Rattle.std.specs.{Prelude.◌≡◌, Prelude.ℕ, Prelude.List, Prelude.[], Prelude.◌∷◌, Prelude.map, Prelude.false, List.Sorted.IsPermutation}
use Rattle.sqlite.specs.{Effect.Database, Effect.IsDatabase, Order.Row}
use Rattle.store_columns.specs.{declared.columns.Owned.Owned, Columns.first_format, Flat.challenge_rows, Flat.key_rows, Flat.listed_rows}
use Rattle.model_laws.specs.Distinct.{Distinct}
use Rattle.desk_model.specs.{Kept.EachOf, Tables.Tables, declared.rows.Listed.Listed}
use Rattle.sql_schema.specs.Schema.{desk_schema, first_schema}
use Rattle.sql_tables.specs.Images.{account_image, authorization_image, challenge_image, formatted_image, key_image, listed_cells, meta_image, nonce_image}
use Rattle.sql_tables.specs.Images.{order_image}
use Rattle.sql_tables.specs.Layouts.{IsRising, account_layout, authorization_layout, challenge_layout, key_layout, nonce_layout, order_layout}
use Rattle.sql_tables.specs.{Effects.is_same_place, Sorted.sorted_by, Hidden.hidden, Hidden.number, Hidden.row_of}

-- no place of an order stands twice
abbrev pub AreApart : List (Owned Listed) → Type 0
AreApart [] = Unit {0}
AreApart (l ∷ ls) = EachOf (λ k. is_same_place l k ≡ false) ls × AreApart ls

-- numbers rise, no challenge's stands twice, and no place does
pub record AreRising (T : Tables) : Type 0 where
  pub nonces : IsRising nonce_layout.key T.nonces
  pub accounts : IsRising account_layout.key T.accounts
  pub orders : IsRising order_layout.key T.orders
  pub authorizations : IsRising authorization_layout.key T.authorizations
  pub challenges : Distinct challenge_layout.key (challenge_rows T.authorizations)
  pub listed : AreApart (listed_rows T.orders)

-- the tree has these rows, in any order, under hidden numbers that rise
pub record HoldsListed (tree : List Row) (listed : List (Owned Listed)) : Type 0 where
  pub numbered : List (ℕ × Owned Listed)
  pub has : tree ≡ map (hidden listed_cells) numbered
  pub rising : IsRising number numbered
  pub same : IsPermutation (map row_of numbered) listed

-- the tables and indexes of format 2 and no other object, with exactly the rows of these tables
pub record Holds (db : Database) (T : Tables) : Type 0 where
  pub sound : IsDatabase db
  pub schema : db.schema ≡ desk_schema
  pub meta : db.trees 0 ≡ meta_image T.meta ∷ []
  pub nonces : db.trees 1 ≡ map nonce_image T.nonces
  pub accounts : db.trees 2 ≡ map account_image T.accounts
  pub orders : db.trees 4 ≡ map order_image T.orders
  pub authorizations : db.trees 5 ≡ map authorization_image T.authorizations
  pub listed : HoldsListed (db.trees 6) (listed_rows T.orders)
  pub challenges : db.trees 8 ≡ map challenge_image (sorted_by challenge_layout.key (challenge_rows T.authorizations))
  pub keys : db.trees 17 ≡ map key_image (sorted_by key_layout.key (key_rows (challenge_rows T.authorizations)))
  pub rising : AreRising T

-- the same of format 1, which tells no keys of answers: whatever keys these tables have, they are not looked at
pub record HoldsFirst (db : Database) (T : Tables) : Type 0 where
  pub sound : IsDatabase db
  pub schema : db.schema ≡ first_schema
  pub meta : db.trees 0 ≡ formatted_image (first_format, T.meta) ∷ []
  pub nonces : db.trees 1 ≡ map nonce_image T.nonces
  pub accounts : db.trees 2 ≡ map account_image T.accounts
  pub orders : db.trees 4 ≡ map order_image T.orders
  pub authorizations : db.trees 5 ≡ map authorization_image T.authorizations
  pub listed : HoldsListed (db.trees 6) (listed_rows T.orders)
  pub challenges : db.trees 8 ≡ map challenge_image (sorted_by challenge_layout.key (challenge_rows T.authorizations))
  pub rising : AreRising T
