-- What a call wrote of a row, by the texts of its table.
use Rattle.std.proofs.Common.{◌≡◌, Result, rules}
use Rattle.sqlite.specs.{Effect.Database, Order.Row, Store.Ghosts, Held.Held}
use Rattle.store_columns.specs.{Columns.account_columns, Columns.authorization_columns, Columns.challenge_columns, Columns.order_columns, Flat.bare_row}
use Rattle.sql_write.specs.Statements.{RowWriting, account_writing, authorization_writing, challenge_writing, key_writing, listed_writing, meta_writing}
use Rattle.sql_write.specs.Statements.{nonce_writing, order_writing, sql_by, writes}
use Rattle.sql_write.specs.{Makes.AddsOrPuts, Makes.AppendsOrPlaces, Makes.RenewsOrPuts, Makes.Writes, Refusals.HasWritten, Refusals.IsRun}
use Rattle.sql_write.specs.{declared.fault.SaveFault.SaveFault, declared.stored.Write.Write}
use Rattle.sql_write.specs.{declared.stored.Write.TheVariants.Upsert, declared.stored.Write.TheVariants.Insert, declared.stored.Write.TheVariants.Update}
use Rattle.sql_write.proofs.Written.{run_written}
use Rattle.sql_tables.specs.Images.{account_kept, authorization_kept, challenge_kept, formatted_columns, meta_kept, order_kept}
use Rattle.sql_tables.specs.Layouts.{Layout, account_layout, authorization_layout, challenge_layout, formatted_layout, key_layout, nonce_layout, order_layout}
use Rattle.sql_tables.proofs.Upserts.{account_insert, account_update, account_upsert, nonce_insert, nonce_upsert, order_insert, order_update, order_upsert}
use Rattle.sql_tables.proofs.Upserts.{authorization_insert, authorization_update, authorization_upsert, challenge_insert, challenge_update, challenge_upsert}
use Rattle.sql_tables.proofs.Upserts.{key_insert, key_upsert, meta_update, meta_upsert}
use Rattle.sql_tables.proofs.{Inserts.Carries, InsertStatement.IsInsert, UpdateStatement.IsUpdate, UpsertStatement.IsUpsert, UpsertStatement.advances_by}
use Rattle.sql_tables.proofs.{InsertStatement.advances_inserted, ListedUpsert.advances_appended, ListedUpsert.advances_listed, UpdateStatement.advances_renewed}

-- the texts by which rows of a table are put, inserted and renewed do this
pub record AreTexts {X : Type 0} (rows : RowWriting X) (Does : Write → X → Database → Database → Type 0) : Type 1 where
  pub puts : Carries rows.texts.1.now rows.all (Does Upsert)
  pub adds : Carries rows.texts.0.now rows.all (Does Insert)
  pub renews : Carries rows.texts.2.now rows.updates (Does Update)

module _ {S : Type 0} (g : Ghosts S) {X : Type 0} {rows : RowWriting X} {Does : Write → X → Database → Database → Type 0}
    (texts : AreTexts rows Does) (x : X) where
  -- the statement for this write was run with these values
  pub row_written : (m : Write) {a b : Held S} {q : Result (Unit {0}) SaveFault} {all updates : Row} → all ≡ rows.all x → updates ≡ rows.updates x
      → IsRun g (sql_by rows.texts.0.now rows.texts.1.now rows.texts.2.now m all updates) a b q → HasWritten g (writes rows m x) (Does m x) a b q
  row_written Upsert {a} {b} {q} {all} are renew it = run_written g rows.texts.1.now all (rows.all x) (Does Upsert x) a b q are it (texts.puts x _ _ all are)
  row_written Insert {a} {b} {q} {all} are renew it = run_written g rows.texts.0.now all (rows.all x) (Does Insert x) a b q are it (texts.adds x _ _ all are)
  row_written Update {a} {b} {q} {updates = updates} are renew it =
      run_written g rows.texts.2.now updates (rows.updates x) (Does Update x) a b q renew it (texts.renews x _ _ updates renew)

-- ---- each table

-- one that has all three texts, by what they mean
texts_by : {X : Type 0} (L : Layout X) (rows : RowWriting X) (kept : X → Row) (puts : IsUpsert L rows.all rows.texts.1.now)
    → IsInsert L puts rows.texts.0.now → IsUpdate L puts rows.updates kept rows.texts.2.now → AreTexts rows (Writes L kept)
texts_by L rows kept puts adds renews = search (rules, advances_by, advances_inserted, advances_renewed)

-- `meta`
pub meta_texts : AreTexts meta_writing (RenewsOrPuts formatted_layout (λ x. meta_kept (formatted_columns x)))
meta_texts = search (rules, advances_by, meta_upsert, advances_renewed, meta_update)

-- `nonce`
pub nonce_texts : AreTexts nonce_writing (AddsOrPuts nonce_layout)
nonce_texts = search (rules, advances_by, nonce_upsert, advances_inserted, nonce_insert)

-- `account`
pub account_texts : AreTexts account_writing (Writes account_layout (λ x. account_kept (account_columns x)))
account_texts = texts_by account_layout account_writing _ account_upsert account_insert account_update

-- `ord`
pub order_texts : AreTexts order_writing (Writes order_layout (λ x. order_kept (order_columns x)))
order_texts = texts_by order_layout order_writing _ order_upsert order_insert order_update

-- `authz`
pub authorization_texts : AreTexts authorization_writing (Writes authorization_layout (λ x. authorization_kept (authorization_columns x)))
authorization_texts = texts_by authorization_layout authorization_writing _ authorization_upsert authorization_insert authorization_update

-- `ord_authz`
pub listed_texts : AreTexts listed_writing AppendsOrPlaces
listed_texts = record { puts = advances_listed; adds = advances_appended; renews = advances_listed }

-- `chall_key`
pub key_texts : AreTexts key_writing (AddsOrPuts key_layout)
key_texts = search (rules, advances_by, key_upsert, advances_inserted, key_insert)

-- `chall`
pub challenge_texts : AreTexts challenge_writing (Writes challenge_layout (λ c. challenge_kept (challenge_columns (bare_row c))))
challenge_texts = texts_by challenge_layout challenge_writing _ challenge_upsert challenge_insert challenge_update
