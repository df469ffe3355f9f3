-- The texts that put, insert and renew the rows of each table whose key is its row number.
use Rattle.std.proofs.Common.{pos, List, [], ◌∷◌, ◌++◌, drop, take, refl, arith}
use Rattle.sqlite.specs.{Effect.Database, Listing.understood, declared.types.Value.TheVariants.Int, declared.types.Value.TheVariants.Null}
use Rattle.sqlite_sql.specs.Term.{lit, col}
use Rattle.sqlite_tied.specs.Compute.{everything}
use Rattle.desk_model.specs.{Change.put, declared.rows.Meta.Meta}
use Rattle.store_columns.specs.Columns.{account_columns, authorization_columns, challenge_columns, key_columns, known_format, nonce_columns, order_columns}
use Rattle.store_columns.specs.Flat.{bare_row}
use Rattle.sql_schema.specs.Schema.{account_table, authz_table, chall_key_table, chall_table, meta_table, nonce_table, ord_table}
use Rattle.sql_schema.specs.declared.accounts.TheConstants as account
use Rattle.sql_schema.specs.declared.authorizations.TheConstants as authz
use Rattle.sql_schema.specs.declared.challenges.TheConstants as chall
use Rattle.sql_schema.specs.declared.keys.TheConstants as chall_key
use Rattle.sql_schema.specs.declared.meta.TheConstants as meta
use Rattle.sql_schema.specs.declared.nonces.TheConstants as nonce
use Rattle.sql_schema.specs.declared.orders.TheConstants as ord
use Rattle.sql_tables.specs.Effects.{BecomesRows, Puts}
use Rattle.sql_tables.specs.Images.{account_kept, account_updates, account_params, authorization_kept, authorization_updates, authorization_params}
use Rattle.sql_tables.specs.Images.{challenge_kept, challenge_updates, challenge_params, formatted_columns, key_params, meta_kept, meta_updates}
use Rattle.sql_tables.specs.Images.{meta_params, nonce_params, order_kept, order_updates, order_params}
use Rattle.sql_tables.specs.Layouts.{HasRows, account_layout, authorization_layout, challenge_layout, formatted_layout, key_layout, meta_layout}
use Rattle.sql_tables.specs.Layouts.{nonce_layout, order_layout}
use Rattle.sql_tables.proofs.{Casts.cast_int, Casts.cast_int_or_null, Casts.cast_null, Casts.cast_text_or_null, Casts.row_kept, Clashes.clash_by_key}
use Rattle.sql_tables.proofs.{InsertStatement.IsInsert, UpdateStatement.IsUpdate, UpsertStatement.IsUpsert, UpsertStatement.sets_key, UpsertStatement.upsert_as}

-- a column keeps its value, and so do those behind it
and : {A B : Type 0} → A → B → A × B
and a b = (a, b)

-- ---- `meta`, in any format

-- the text that puts a row
pub meta_upsert : IsUpsert formatted_layout (λ row. meta_params (formatted_columns row)) meta.WRITING.1.now
unfolding understood everything
meta_upsert =
    upsert_as formatted_layout _ _ 0 11 refl (refl, refl) refl refl (λ _. refl) (λ _. refl)
    (λ _. row_kept meta_table _ _
    (and cast_null (and (cast_int _) (and refl (and (cast_int _) (and (cast_int _) (and (cast_int _) (and (cast_int _) (and (cast_int _) (and (cast_int _) (and
    (cast_int _) (and (cast_int _) (and (cast_int _) tt)))))))))))))
    (clash_by_key formatted_layout (λ _. refl)) (λ _ _. refl) (sets_key formatted_layout) (λ _. refl)

-- that renews one, in the columns that calls move
pub meta_update : IsUpdate formatted_layout meta_upsert (λ row. meta_updates (formatted_columns row)) (λ row. meta_kept (formatted_columns row))
    meta.WRITING.2.now
unfolding understood everything meta_upsert upsert_as
meta_update = record {
  project = col 1 0 ∷ col 1 0 ∷ lit Null ∷ col 1 2 ∷ col 1 3 ∷ col 1 4 ∷ col 1 5 ∷ col 1 6 ∷ col 0 1 ∷ col 0 2 ∷ col 0 3 ∷ col 0 4 ∷ col 0 5 ∷ col 0 6 ∷ [];
  means = record { is = refl; plain = (refl, refl) };
  given = λ _. refl;
  sets = λ x y same keeps i.
      Int (pos (formatted_layout.key y)) ∷ Int (pos (same i)) ∷ Null ∷ (keeps i ++ drop 1 (meta_updates (formatted_columns x)));
}

-- a row in the format of a desk, in the place of such a row
pub puts_known : (x : Meta) (old new : Database) → Puts formatted_layout (known_format, x) old new → Puts meta_layout x old new
puts_known x old new puts rows has = go rows has
  where
    go : (rows : List Meta) → HasRows meta_layout old rows → BecomesRows meta_layout (put meta_layout.key x rows) old new
    go [] has =
        let p = puts [] (record { schema = has.schema; rows_are = has.rows_are; rising = tt }) in
        record { sound = p.sound; has = record { schema = p.has.schema; rows_are = p.has.rows_are; rising = (omega arith, tt) }; others = p.others }
    go (y ∷ []) has =
        let p = puts ((known_format, y) ∷ []) (record { schema = has.schema; rows_are = has.rows_are; rising = (omega arith, tt) }) in
        record { sound = p.sound; has = record { schema = p.has.schema; rows_are = p.has.rows_are; rising = (omega arith, tt) }; others = p.others }
    go (y ∷ z ∷ zs) has = absurd (omega (arith, has.rising.1.0))

-- ---- `nonce`

-- the text that puts a row
pub nonce_upsert : IsUpsert nonce_layout (λ row. nonce_params (nonce_columns row)) nonce.WRITING.1.now
unfolding understood everything
nonce_upsert =
    upsert_as nonce_layout _ _ 1 2 refl (refl, refl) refl refl (λ _. refl) (λ _. refl)
    (λ _. row_kept nonce_table _ _ (cast_null, (refl, (cast_int _, tt))))
    (clash_by_key nonce_layout (λ _. refl)) (λ _ _. refl) (sets_key nonce_layout) (λ _. refl)

-- that inserts one
pub nonce_insert : IsInsert nonce_layout nonce_upsert nonce.WRITING.0.now
unfolding understood everything nonce_upsert upsert_as
nonce_insert = record { is = refl; plain = (refl, refl) }

-- ---- `account`

-- the text that puts a row
pub account_upsert : IsUpsert account_layout (λ row. account_params (account_columns row)) account.WRITING.1.now
unfolding understood everything
account_upsert =
    upsert_as account_layout _ _ 2 6 refl (refl, refl) refl refl (λ _. refl) (λ _. refl)
    (λ _. row_kept account_table _ _ (cast_null, (refl, (refl, (cast_int _, (cast_int_or_null _, (cast_text_or_null _, (refl, tt))))))))
    (clash_by_key account_layout (λ _. refl)) (λ _ _. refl) (sets_key account_layout) (λ _. refl)

-- that renews one, in the columns that calls move
pub account_update : IsUpdate account_layout account_upsert (λ row. account_updates (account_columns row))
    (λ row. account_kept (account_columns row)) account.WRITING.2.now
unfolding understood everything account_upsert upsert_as
account_update = record {
  project = col 1 0 ∷ col 1 0 ∷ lit Null ∷ col 0 1 ∷ col 0 2 ∷ col 1 4 ∷ col 0 3 ∷ col 0 4 ∷ col 0 5 ∷ [];
  means = record { is = refl; plain = (refl, refl) };
  given = λ _. refl;
  sets = λ x y same keeps i.
      Int (pos (account_layout.key y)) ∷ Int (pos (same i)) ∷ Null ∷ (take 2 (drop 1 (account_updates (account_columns x)))
      ++ (keeps i ++ drop 3 (account_updates (account_columns x))));
}

-- that inserts one
pub account_insert : IsInsert account_layout account_upsert account.WRITING.0.now
unfolding understood everything account_upsert upsert_as
account_insert = record { is = refl; plain = (refl, refl) }

-- ---- `ord`

-- the text that puts a row
pub order_upsert : IsUpsert order_layout (λ row. order_params (order_columns row)) ord.WRITING.1.now
unfolding understood everything
order_upsert =
    upsert_as order_layout _ _ 3 10 refl (refl, refl) refl refl (λ _. refl) (λ _. refl)
    (λ _. row_kept ord_table _ _
    (and cast_null (and (cast_int _) (and (cast_int _) (and (cast_int _) (and (cast_int_or_null _) (and refl (and (cast_int_or_null _) (and refl (and
    (cast_int_or_null _) (and (cast_text_or_null _) (and refl tt))))))))))))
    (clash_by_key order_layout (λ _. refl)) (λ _ _. refl) (sets_key order_layout) (λ _. refl)

-- that renews one, in the columns that calls move
pub order_update : IsUpdate order_layout order_upsert (λ row. order_updates (order_columns row)) (λ row. order_kept (order_columns row)) ord.WRITING.2.now
unfolding understood everything order_upsert upsert_as
order_update = record {
  project = col 1 0 ∷ col 1 0 ∷ lit Null ∷ col 1 2 ∷ col 1 3 ∷ col 1 4 ∷ col 0 1 ∷ col 0 2 ∷ col 0 3 ∷ col 0 4 ∷ col 0 5 ∷ col 0 6 ∷ col 0 7 ∷ [];
  means = record { is = refl; plain = (refl, refl) };
  given = λ _. refl;
  sets = λ x y same keeps i.
      Int (pos (order_layout.key y)) ∷ Int (pos (same i)) ∷ Null ∷ (keeps i ++ drop 1 (order_updates (order_columns x)));
}

-- that inserts one
pub order_insert : IsInsert order_layout order_upsert ord.WRITING.0.now
unfolding understood everything order_upsert upsert_as
order_insert = record { is = refl; plain = (refl, refl) }

-- ---- `authz`

-- the text that puts a row
pub authorization_upsert : IsUpsert authorization_layout (λ row. authorization_params (authorization_columns row)) authz.WRITING.1.now
unfolding understood everything
authorization_upsert =
    upsert_as authorization_layout _ _ 4 8 refl (refl, refl) refl refl (λ _. refl) (λ _. refl)
    (λ _. row_kept authz_table _ _
    (cast_null, (cast_int _, (refl, (cast_int _, (cast_int _, (cast_int _, (cast_int_or_null _, (cast_text_or_null _, (refl, tt))))))))))
    (clash_by_key authorization_layout (λ _. refl)) (λ _ _. refl) (sets_key authorization_layout) (λ _. refl)

-- that renews one, in the columns that calls move
pub authorization_update : IsUpdate authorization_layout authorization_upsert (λ row. authorization_updates (authorization_columns row))
    (λ row. authorization_kept (authorization_columns row)) authz.WRITING.2.now
unfolding understood everything authorization_upsert upsert_as
authorization_update = record {
  project = col 1 0 ∷ col 1 0 ∷ lit Null ∷ col 1 2 ∷ col 1 3 ∷ col 1 4 ∷ col 1 5 ∷ col 1 6 ∷ col 0 1 ∷ col 0 2 ∷ col 0 3 ∷ [];
  means = record { is = refl; plain = (refl, refl) };
  given = λ _. refl;
  sets = λ x y same keeps i.
      Int (pos (authorization_layout.key y)) ∷ Int (pos (same i)) ∷ Null ∷ (keeps i ++ drop 1 (authorization_updates (authorization_columns x)));
}

-- that inserts one
pub authorization_insert : IsInsert authorization_layout authorization_upsert authz.WRITING.0.now
unfolding understood everything authorization_upsert upsert_as
authorization_insert = record { is = refl; plain = (refl, refl) }

-- ---- `chall`

-- the text that puts a row
pub challenge_upsert : IsUpsert challenge_layout (λ row. challenge_params (challenge_columns (bare_row row))) chall.WRITING.1.now
unfolding understood everything
challenge_upsert =
    upsert_as challenge_layout _ _ 6 7 refl (refl, refl) refl refl (λ _. refl) (λ _. refl)
    (λ _. row_kept chall_table _ _ (cast_null, (cast_int _, (refl, (refl, (cast_int_or_null _, (cast_int_or_null _, (cast_text_or_null _, (refl, tt)))))))))
    (clash_by_key challenge_layout (λ _. refl)) (λ _ _. refl) (sets_key challenge_layout) (λ _. refl)

-- that renews one, in the columns that calls move
pub challenge_update : IsUpdate challenge_layout challenge_upsert (λ row. challenge_updates (challenge_columns (bare_row row)))
    (λ row. challenge_kept (challenge_columns (bare_row row))) chall.WRITING.2.now
unfolding understood everything challenge_upsert upsert_as
challenge_update = record {
  project = col 1 0 ∷ col 1 0 ∷ lit Null ∷ col 1 2 ∷ col 1 3 ∷ col 1 4 ∷ col 0 1 ∷ col 0 2 ∷ col 0 3 ∷ col 0 4 ∷ [];
  means = record { is = refl; plain = (refl, refl) };
  given = λ _. refl;
  sets = λ x y same keeps i.
      Int (pos (challenge_layout.key y)) ∷ Int (pos (same i)) ∷ Null ∷ (keeps i ++ drop 1 (challenge_updates (challenge_columns (bare_row x))));
}

-- that inserts one
pub challenge_insert : IsInsert challenge_layout challenge_upsert chall.WRITING.0.now
unfolding understood everything challenge_upsert upsert_as
challenge_insert = record { is = refl; plain = (refl, refl) }

-- ---- `chall_key`

-- the text that puts a row
pub key_upsert : IsUpsert key_layout (λ row. key_params (key_columns row)) chall_key.WRITING.1.now
unfolding understood everything
key_upsert =
    upsert_as key_layout _ _ 7 1 refl (refl, refl) refl refl (λ _. refl) (λ _. refl)
    (λ _. row_kept chall_key_table _ _ (cast_null, (refl, tt)))
    (clash_by_key key_layout (λ _. refl)) (λ _ _. refl) (sets_key key_layout) (λ _. refl)

-- that inserts one
pub key_insert : IsInsert key_layout key_upsert chall_key.WRITING.0.now
unfolding understood everything key_upsert upsert_as
key_insert = record { is = refl; plain = (refl, refl) }
