-- What readings of all tables, row by row, tell of the database.
use Rattle.std.specs.Prelude.{◌≡◌, ◌⊎◌, ℕ, Bool, false, List, Result, IfErr, IfOk, IsTrue, OnOk, map}
use Rattle.sqlite.specs.{Effect.Database, Store.Ghosts, Held.Held, Held.state, State.HasCleanDisk, State.IsUnchanged, declared.error.Error.Error}
use Rattle.store_book.specs.BookRows.{AreAccounts, AreAuthorizations, AreChallenges, AreKeys, AreListed, AreOrders, answered_numbers}
use Rattle.store_book.specs.Passing.{IsOnlyRow}
use Rattle.store_columns.specs.Columns.{account_columns, authorization_columns, challenge_columns, key_columns}
use Rattle.store_columns.specs.Columns.{listed_columns, meta_columns, nonce_columns, order_columns}
use Rattle.store_columns.specs.Limits.{IsStoredAccount, IsStoredAuthorization, IsStoredChallenge, IsStoredKey, IsStoredListed}
use Rattle.store_columns.specs.Limits.{IsStoredMeta, IsStoredNonce, IsStoredOrder}
use Rattle.store_columns.specs.declared.columns.FlatRows.{FlatRows}
use Rattle.model_laws.specs.Ordered.{IsTable}
use Rattle.desk_model.specs.{Tables.Tables, declared.rows.Counters.Counters, declared.rows.Meta.Meta}
use Rattle.sql_read.specs.Failures.{HasTexts, IsMet, IsOutOfMemory, MayRead}
use Rattle.sql_read.specs.Spelled.{account_in, authorization_in, challenge_in, key_in, listed_in, meta_in, nonce_in, order_in}
use Rattle.sql_read.specs.{AllTables.FailsAtFirst, AllTables.FailsAtTable, Checking.ShowsTable, Only.ShowsBookRowsOnly, declared.formats.Format.Format}
use Rattle.sql_read.specs.{declared.formats.Format.TheVariants.First, declared.formats.Format.TheVariants.Second}
use Rattle.sql_schema.specs.declared.accounts.TheConstants as account
use Rattle.sql_schema.specs.declared.authorizations.TheConstants as authz
use Rattle.sql_schema.specs.declared.challenges.TheConstants as chall
use Rattle.sql_schema.specs.declared.keys.TheConstants as chall_key
use Rattle.sql_schema.specs.declared.meta.TheConstants as meta
use Rattle.sql_schema.specs.declared.nonces.TheConstants as nonce
use Rattle.sql_schema.specs.declared.orders.TheConstants as ord
use Rattle.sql_schema.specs.declared.listed.TheConstants as ord_authz
use Rattle.sql_schema.specs.{Failing.IsFailure, Stays.Asks}
use Rattle.sql_tables.specs.Holds.{Holds, HoldsFirst}

-- the database holds these tables in this format
abbrev pub HoldsIn : Format → Database → Tables → Type 0
HoldsIn First db T = HoldsFirst db T
HoldsIn Second db T = Holds db T

-- the reading of a table that this format has failed so
abbrev pub FailsIn : {S : Type 0} → Format → Ghosts S → Held S → Error → Type 0
FailsIn First g conn e = FailsAtFirst g conn e
FailsIn Second g conn e = FailsAtTable g conn e

module _ {S : Type 0} (g : Ghosts S) (db : Database) where
  -- the table of keys has one for each of these challenges
  abbrev pub ShowsKeys : List ℕ → Type 0
  ShowsKeys answered = ShowsTable g chall_key.SELECT.now key_in key_columns IsStoredKey db (AreKeys answered)

  -- so it has where the format has that table
  abbrev pub ShowsKeysIn : Format → List ℕ → Type 0
  ShowsKeysIn First answered = Unit {0}
  ShowsKeysIn Second answered = ShowsKeys answered

  -- the challenges are of these authorizations, and then come the keys
  pub record ShowsChallenges (format : Format) (last : Counters) (authorizations : List ℕ) : Type 0 where
    pub table : ShowsTable g chall.SELECT.now challenge_in challenge_columns IsStoredChallenge db (AreChallenges last.challenges authorizations)
    pub keys : ShowsKeysIn format (answered_numbers table.rows)

  -- these orders list these authorizations, and then come the challenges
  pub record ShowsListed (format : Format) (last : Counters) (orders authorizations : List ℕ) : Type 0 where
    pub table : ShowsTable g ord_authz.SELECT.now listed_in listed_columns IsStoredListed db (AreListed orders authorizations)
    pub challenges : ShowsChallenges format last authorizations

  -- the authorizations are of these accounts, and then comes what these orders list
  pub record ShowsAuthorizations (format : Format) (last : Counters) (accounts orders : List ℕ) : Type 0 where
    pub table : ShowsTable g authz.SELECT.now authorization_in authorization_columns IsStoredAuthorization db
        (AreAuthorizations last.authorizations accounts)
    pub listed : ShowsListed format last orders (map (λ a. a.number) table.rows)

  -- the orders are of these accounts, and then come the authorizations
  pub record ShowsOrders (format : Format) (last : Counters) (accounts : List ℕ) : Type 0 where
    pub table : ShowsTable g ord.SELECT.now order_in order_columns IsStoredOrder db (AreOrders last.orders accounts)
    pub authorizations : ShowsAuthorizations format last accounts (map (λ o. o.number) table.rows)

  -- the accounts, and then come the orders
  pub record ShowsAccounts (format : Format) (last : Counters) : Type 0 where
    pub table : ShowsTable g account.SELECT.now account_in account_columns IsStoredAccount db (AreAccounts last.accounts)
    pub orders : ShowsOrders format last (map (λ a. a.number) table.rows)

  -- the nonces, and then come the accounts
  pub record ShowsNonces (format : Format) (last : Counters) : Type 0 where
    pub table : ShowsTable g nonce.SELECT.now nonce_in nonce_columns IsStoredNonce db (IsTable (λ n. n.serial) last.nonces)
    pub accounts : ShowsAccounts format last

  -- the row of `meta`, and then all that its counters count
  pub record ShowsBookRows : Type 0 where
    pub last : Counters
    pub table : ShowsTable g meta.SELECT.now meta_in meta_columns IsStoredMeta db (IsOnlyRow last)
    pub nonces : ShowsNonces Second last

-- where the answer is yes, this is so of the database; where it is no, it shows alone no rows of a book of which that is known; a reading
-- fails for memory or the disk alone, where it held a desk in this format
pub record Checks {S : Type 0} (g : Ghosts S) (format : Format) (old new : Held S) (P : Database → Type 0) (Known : Database → Meta → FlatRows → Type 0)
    (result : Result Bool Error) : Type 0 where
  pub answer : HasCleanDisk (state g new) → IfOk result (λ answer. IsTrue answer → P (state g old).now)
  pub none : HasCleanDisk (state g new) → IfOk result (λ answer. answer ≡ false → (meta : Meta) (rows : FlatRows)
      → ShowsBookRowsOnly g (state g old).now format meta rows → Known (state g old).now meta rows → ⊥)
  pub fails : HasCleanDisk (state g new) → (T : Tables) → HoldsIn format (state g old).now T → MayRead (state g old) → HasTexts T → IfErr result IsFailure
  pub refused : HasCleanDisk (state g new) → IfErr result (λ e. IsOutOfMemory e ⊎ FailsIn format g old e)
  pub met : HasCleanDisk (state g new) → IfErr result (IsMet (state g old) (state g new))
  pub unchanged : HasCleanDisk (state g new) → OnOk result (IsUnchanged (state g old) (state g new))
  pub asks : Asks (state g old) (state g new)
