-- Rows that a reading showed.
use Rattle.std.proofs.Common.{◌≡◌, List, ℕ, [], map, refl, ◌∙◌}
use Rattle.sqlite.specs.{Held.Held, Held.state, Order.Row, State.Shown, Store.Ghosts}
use Rattle.store_columns.specs.declared.columns.StoredRows.{StoredRows}
use Rattle.sql_read.specs.Shown.{AreShown, IsShown}
use Rattle.sql_read.specs.Spelled.{account_in, authorization_in, challenge_in, key_in, listed_in, meta_in, nonce_in, order_in}
use Rattle.sql_schema.specs.declared.accounts.TheConstants as account
use Rattle.sql_schema.specs.declared.authorizations.TheConstants as authz
use Rattle.sql_schema.specs.declared.challenges.TheConstants as chall
use Rattle.sql_schema.specs.declared.keys.TheConstants as chall_key
use Rattle.sql_schema.specs.declared.meta.TheConstants as meta
use Rattle.sql_schema.specs.declared.nonces.TheConstants as nonce
use Rattle.sql_schema.specs.declared.orders.TheConstants as ord
use Rattle.sql_schema.specs.declared.listed.TheConstants as ord_authz

module _ {S C : Type 0} (g : Ghosts S) (text : List ℕ) (spelled : Row → C) where
  -- those of a query are shown over the database that it found
  pub shown_now : (old new : Held S) (rows : List Row) (all : List C) → Shown text [] (state g old) (state g new) rows → all ≡ map spelled rows
      → IsShown g text spelled old all
  shown_now old new rows all shown is = record { before = old; after = new; same = refl; rows = rows; shown = shown; columns = is }

  -- and over the database that was there before
  pub shown_still : (old now : Held S) (all : List C) → (state g now).now ≡ (state g old).now → IsShown g text spelled now all → IsShown g text spelled old all
  shown_still old now all same it =
      record { before = it.before; after = it.after; same = it.same ∙ same; rows = it.rows; shown = it.shown; columns = it.columns }

-- so are those of all tables
pub shown_before : {S : Type 0} (g : Ghosts S) (old now : Held S) (stored : StoredRows) → (state g now).now ≡ (state g old).now → AreShown g now stored
    → AreShown g old stored
shown_before g old now stored same it =
    record {
      metas = shown_still g meta.SELECT.now meta_in old now stored.metas same it.metas;
      nonces = shown_still g nonce.SELECT.now nonce_in old now stored.nonces same it.nonces;
      accounts = shown_still g account.SELECT.now account_in old now stored.accounts same it.accounts;
      orders = shown_still g ord.SELECT.now order_in old now stored.orders same it.orders;
      authorizations = shown_still g authz.SELECT.now authorization_in old now stored.authzs same it.authorizations;
      listed = shown_still g ord_authz.SELECT.now listed_in old now stored.order_authzs same it.listed;
      challenges = shown_still g chall.SELECT.now challenge_in old now stored.challs same it.challenges;
      keys = shown_still g chall_key.SELECT.now key_in old now stored.chall_keys same it.keys;
    }
