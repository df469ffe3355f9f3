-- The rows that a database of a desk keeps of each table by number, in either format.
use Rattle.std.proofs.Common.{◌≡◌, ℤ, List, [], ◌∷◌, map, refl, sym, subst, arith}
use Rattle.std.proofs.{lemmas.List.map-id, lemmas.Simd.map-map}
use Rattle.sqlite.specs.{Effect.Database, Schema.Schema}
use Rattle.store_columns.specs.Columns.{authorization_columns, challenge_columns, first_format, key_columns, known_format, nonce_columns, order_columns}
use Rattle.store_columns.specs.Flat.{bare_row, challenge_rows, key_rows, summarized, without_challenges, without_listed}
use Rattle.store_columns.specs.Limits.{IsStoredAccount, IsStoredChallenge, IsStoredKey, IsStoredNonce, IsStoredOrder, IsStoredSummary}
use Rattle.store_columns.specs.TextColumns.{HasTextAuthorization, HasTextChallenge, HasTextOrder, HasTextSummary}
use Rattle.model_laws.proofs.Basics.{each, each-map, each_all, each_of_map}
use Rattle.desk_model.specs.{Kept.EachOf, Tables.Tables}
use Rattle.sql_schema.specs.Schema.{desk_schema, first_schema}
use Rattle.sql_tables.specs.{Layouts.IsRising, Layouts.Layout, Layouts.key_layout, Layouts.order_layout, Holds.Holds, Holds.HoldsFirst, Sorted.sorted_by}
use Rattle.sql_tables.specs.{Layouts.account_layout, Layouts.authorization_layout, Layouts.challenge_layout, Layouts.formatted_layout, Layouts.nonce_layout}
use Rattle.sql_tables.proofs.Sorting.{each_sorted, sorted_rises}
use Rattle.sql_read.specs.{declared.formats.Format.TheVariants.First, declared.formats.Format.TheVariants.Second, BookShown.HoldsIn}
use Rattle.sql_read.specs.declared.formats.Format.{Format}
use Rattle.sql_read.proofs.TableFacts.{account_facts, authorization_facts, challenge_facts, columns, formatted_facts, key_facts, meta_facts, nonce_facts}
use Rattle.sql_read.proofs.TableFacts.{order_facts, summary_facts}
use Rattle.sql_read.proofs.{FoundRows.Keeps, KeyedReadings.HasRowsIn, Lists.each_map_sorted}

-- the definitions of a format, and its number
abbrev pub schema_of : Format → Schema
schema_of First = first_schema
schema_of Second = desk_schema

-- the number of a format
abbrev pub number_of : Format → ℤ
number_of First = first_format
number_of Second = known_format

module _ (db : Database) (T : Tables) where
  -- a table of which both formats say the same has these rows
  rows_in : {X : Type 0} (L : Layout X) (xs : List X) (format : Format) → HoldsIn format db T
      → (Holds db T → (db.trees L.table.tree ≡ map L.image xs) × IsRising L.key xs)
      → (HoldsFirst db T → (db.trees L.table.tree ≡ map L.image xs) × IsRising L.key xs) → HasRowsIn (schema_of format) L db xs
  rows_in L xs First has today before = record { there = has.schema; rows_are = (before has).0; rising = (before has).1 }
  rows_in L xs Second has today before = record { there = has.schema; rows_are = (today has).0; rising = (today has).1 }

  -- the row of `meta`, which tells the format
  format_row : (format : Format) → HoldsIn format db T → HasRowsIn (schema_of format) formatted_layout db ((number_of format, T.meta) ∷ [])
  format_row First has = record { there = has.schema; rows_are = has.meta; rising = (omega arith, tt) }
  format_row Second has = record { there = has.schema; rows_are = has.meta; rising = (omega arith, tt) }

  -- `meta`, in either format
  pub format_kept : (format : Format) → HoldsIn format db T → Keeps (schema_of format) formatted_facts db T ((number_of format, T.meta) ∷ [])
  format_kept format has = record { rows = format_row format has; stored = λ stored. stored.metas; texts = λ texts. texts.metas }

  -- that of today's format
  pub meta_kept : Holds db T → Keeps desk_schema meta_facts db T (T.meta ∷ [])
  meta_kept has = record {
    rows = record { there = has.schema; rows_are = has.meta; rising = (omega arith, tt) };
    stored = λ stored. stored.metas;
    texts = λ texts. texts.metas;
  }

  -- nonces
  pub nonces_kept : (format : Format) → HoldsIn format db T → Keeps (schema_of format) nonce_facts db T T.nonces
  nonces_kept format has = record {
    rows = rows_in nonce_layout T.nonces format has (λ has. (has.nonces, has.rising.nonces)) (λ has. (has.nonces, has.rising.nonces));
    stored = λ stored. subst (EachOf IsStoredNonce) (sym (map-id T.nonces)) stored.nonces;
    texts = λ _. each_all (λ _. Unit {0}) (map nonce_columns T.nonces) (λ _. tt);
  }

  -- accounts
  pub accounts_kept : (format : Format) → HoldsIn format db T → Keeps (schema_of format) account_facts db T T.accounts
  accounts_kept format has = record {
    rows = rows_in account_layout T.accounts format has (λ has. (has.accounts, has.rising.accounts)) (λ has. (has.accounts, has.rising.accounts));
    stored = λ stored. subst (EachOf IsStoredAccount) (sym (map-id T.accounts)) stored.accounts;
    texts = λ texts. texts.accounts;
  }

  -- orders, without what they list
  pub orders_kept : (format : Format) → HoldsIn format db T → Keeps (schema_of format) order_facts db T T.orders
  orders_kept format has = record {
    rows = rows_in order_layout T.orders format has (λ has. (has.orders, has.rising.orders)) (λ has. (has.orders, has.rising.orders));
    stored = λ stored. stored.orders;
    texts = λ texts. subst (EachOf HasTextOrder) (map-map order_columns without_listed T.orders) texts.orders;
  }

  -- orders, in summary
  pub summaries_kept : Holds db T → Keeps desk_schema summary_facts db T T.orders
  summaries_kept has =
      let whole = orders_kept Second has in
      record {
        rows = whole.rows;
        stored = λ stored.
            each-map IsStoredSummary summarized T.orders
            (each _ _ T.orders (λ o k. record { number = k.number; account = k.account; made = k.made; expires = k.expires; bare = refl })
            (each_of_map IsStoredOrder without_listed T.orders (whole.stored stored)));
        texts = λ texts.
            each-map HasTextSummary (columns summary_facts.rows) T.orders
            (each _ _ T.orders (λ o k. k.status) (each_of_map HasTextOrder (columns order_facts.rows) T.orders (whole.texts texts)));
      }

  -- authorizations, without their challenges
  pub authorizations_kept : (format : Format) → HoldsIn format db T → Keeps (schema_of format) authorization_facts db T T.authorizations
  authorizations_kept format has = record {
    rows = rows_in authorization_layout T.authorizations format has (λ has. (has.authorizations, has.rising.authorizations))
        (λ has. (has.authorizations, has.rising.authorizations));
    stored = λ stored. stored.authorizations;
    texts = λ texts. subst (EachOf HasTextAuthorization) (map-map authorization_columns without_challenges T.authorizations) texts.authzs;
  }

  -- challenges, by number
  pub challenges_kept : (format : Format) → HoldsIn format db T
      → Keeps (schema_of format) challenge_facts db T (sorted_by challenge_layout.key (challenge_rows T.authorizations))
  challenges_kept format has =
      let cs = challenge_rows T.authorizations in
      let key = challenge_layout.key in
      record {
        rows = rows_in challenge_layout (sorted_by key cs) format has (λ has. (has.challenges, sorted_rises key cs))
            (λ has. (has.challenges, sorted_rises key cs));
        stored = λ stored. each_map_sorted key bare_row IsStoredChallenge cs stored.challenges;
        texts = λ texts. each_map_sorted key (columns challenge_facts.rows) HasTextChallenge cs
            (subst (EachOf HasTextChallenge) (map-map challenge_columns bare_row cs) texts.challs);
      }

  -- keys of answers, by the number of the challenge
  pub keys_kept : Holds db T → Keeps desk_schema key_facts db T (sorted_by key_layout.key (key_rows (challenge_rows T.authorizations)))
  keys_kept has =
      let all = key_rows (challenge_rows T.authorizations) in
      let keys = sorted_by key_layout.key all in
      record {
        rows = record { there = has.schema; rows_are = has.keys; rising = sorted_rises key_layout.key all };
        stored = λ stored. subst (EachOf IsStoredKey) (sym (map-id keys)) (each_sorted key_layout.key IsStoredKey all stored.keys);
        texts = λ _. each_all (λ _. Unit {0}) (map key_columns keys) (λ _. tt);
      }
