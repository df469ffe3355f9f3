-- What a reading of all tables showed.
use Rattle.std.specs.Prelude.{◌≡◌, ℕ, List, [], map}
use Rattle.sqlite.specs.{Held.Held, Held.state, Order.Row, State.Shown, Store.Ghosts}
use Rattle.store_columns.specs.declared.columns.StoredRows.{StoredRows}
use Rattle.sql_read.specs.Spelled.{account_in, authorization_in, challenge_in, key_in, listed_in, meta_in, nonce_in, order_in}
use Rattle.sql_schema.specs.declared.accounts.TheConstants as account
use Rattle.sql_schema.specs.declared.authorizations.TheConstants as authz
use Rattle.sql_schema.specs.declared.challenges.TheConstants as chall
use Rattle.sql_schema.specs.declared.keys.TheConstants as chall_key
use Rattle.sql_schema.specs.declared.meta.TheConstants as meta
use Rattle.sql_schema.specs.declared.nonces.TheConstants as nonce
use Rattle.sql_schema.specs.declared.orders.TheConstants as ord
use Rattle.sql_schema.specs.declared.listed.TheConstants as ord_authz

module _ {S : Type 0} (g : Ghosts S) where
  -- over the database of the connection the query showed rows, and these are their columns
  pub record IsShown {C : Type 0} (text : List ℕ) (spelled : Row → C) (conn : Held S) (all : List C) : Type 0 where
    pub before : Held S
    pub after : Held S
    pub same : (state g before).now ≡ (state g conn).now
    pub rows : List Row
    pub shown : Shown text [] (state g before) (state g after) rows
    pub columns : all ≡ map spelled rows

  -- the database has all tables with all columns, and showed these rows of them
  pub record AreShown (conn : Held S) (stored : StoredRows) : Type 0 where
    pub metas : IsShown meta.SELECT.now meta_in conn stored.metas
    pub nonces : IsShown nonce.SELECT.now nonce_in conn stored.nonces
    pub accounts : IsShown account.SELECT.now account_in conn stored.accounts
    pub orders : IsShown ord.SELECT.now order_in conn stored.orders
    pub authorizations : IsShown authz.SELECT.now authorization_in conn stored.authzs
    pub listed : IsShown ord_authz.SELECT.now listed_in conn stored.order_authzs
    pub challenges : IsShown chall.SELECT.now challenge_in conn stored.challs
    pub keys : IsShown chall_key.SELECT.now key_in conn stored.chall_keys
