-- What tables show alone: these rows and no others.
use Rattle.std.specs.Prelude.{List}
use Rattle.sqlite.specs.{Effect.Database, Store.Ghosts}
use Rattle.store_book.specs.{BookRows.AreBookRows, ByKey.AreByKey, IsBook.IsBookOf}
use Rattle.store_columns.specs.Columns.{account_columns, authorization_columns, challenge_columns, key_columns, listed_columns, meta_columns, nonce_columns}
use Rattle.store_columns.specs.Columns.{order_columns}
use Rattle.store_columns.specs.{Limits.AreStored, declared.columns.AnswerKey.AnswerKey, declared.columns.FlatRows.FlatRows}
use Rattle.desk_model.specs.{Tables.Tables, declared.rows.Meta.Meta}
use Rattle.sql_read.specs.declared.formats.Format.TheVariants.{First, Second}
use Rattle.sql_read.specs.Spelled.{FitsAccount, FitsAuthorization, FitsChallenge, FitsKey, FitsListed, FitsMeta, FitsNonce, FitsOrder, account_in}
use Rattle.sql_read.specs.Spelled.{authorization_in, challenge_in, key_in, listed_in, meta_in, nonce_in, order_in}
use Rattle.sql_read.specs.{Checking.ShowsOnly, First.raised_meta, declared.formats.Format.Format}
use Rattle.sql_schema.specs.declared.accounts.TheConstants as account
use Rattle.sql_schema.specs.declared.authorizations.TheConstants as authz
use Rattle.sql_schema.specs.declared.challenges.TheConstants as chall
use Rattle.sql_schema.specs.declared.keys.TheConstants as chall_key
use Rattle.sql_schema.specs.declared.meta.TheConstants as meta
use Rattle.sql_schema.specs.declared.nonces.TheConstants as nonce
use Rattle.sql_schema.specs.declared.orders.TheConstants as ord
use Rattle.sql_schema.specs.declared.listed.TheConstants as ord_authz

module _ {S : Type 0} (g : Ghosts S) (db : Database) where
  -- these rows of `meta`
  abbrev pub ShowsOnlyMetas : List Meta → Type 0
  ShowsOnlyMetas rows = ShowsOnly g meta.SELECT.now meta_in meta_columns FitsMeta db rows

  -- the same in format 1, which counts as today's
  abbrev pub ShowsOnlyFirstMetas : List Meta → Type 0
  ShowsOnlyFirstMetas rows = ShowsOnly g meta.SELECT.now (λ r. raised_meta (meta_in r)) meta_columns FitsMeta db rows

  -- these keys of answers, where the format has their table
  abbrev pub ShowsOnlyKeys : Format → List AnswerKey → Type 0
  ShowsOnlyKeys First keys = Unit {0}
  ShowsOnlyKeys Second keys = ShowsOnly g chall_key.SELECT.now key_in key_columns FitsKey db keys

  -- these rows, in the tables of a format, but for `meta`
  pub record ShowsOnlyRows (format : Format) (rows : FlatRows) : Type 0 where
    pub nonces : ShowsOnly g nonce.SELECT.now nonce_in nonce_columns FitsNonce db rows.nonces
    pub accounts : ShowsOnly g account.SELECT.now account_in account_columns FitsAccount db rows.accounts
    pub orders : ShowsOnly g ord.SELECT.now order_in order_columns FitsOrder db rows.orders
    pub authorizations : ShowsOnly g authz.SELECT.now authorization_in authorization_columns FitsAuthorization db rows.authorizations
    pub listed : ShowsOnly g ord_authz.SELECT.now listed_in listed_columns FitsListed db rows.listed
    pub challenges : ShowsOnly g chall.SELECT.now challenge_in challenge_columns FitsChallenge db rows.challenges
    pub keys : ShowsOnlyKeys format rows.keys

  -- in those of format 1
  abbrev pub ShowsOnlyFirstRows : FlatRows → Type 0
  ShowsOnlyFirstRows rows = ShowsOnlyRows First rows

  -- and they are such as a book has, in their limits and by key
  pub record ShowsBookRowsOnly (format : Format) (meta : Meta) (rows : FlatRows) : Type 0 where
    pub stored : AreStored rows
    pub by_key : AreByKey rows
    pub are : AreBookRows meta rows
    pub only : ShowsOnlyRows format rows

  -- those of this book, in their limits and by key
  pub record ShowsOnlyBook (T : Tables) : Type 0 where
    pub rows : FlatRows
    pub stored : AreStored rows
    pub by_key : AreByKey rows
    pub book : IsBookOf rows T
    pub metas : ShowsOnlyMetas rows.metas
    pub only : ShowsOnlyRows Second rows

  -- the same in format 1, whatever keys of answers the book has
  pub record ShowsOnlyFirstBook (T : Tables) : Type 0 where
    pub rows : FlatRows
    pub stored : AreStored rows
    pub by_key : AreByKey rows
    pub book : IsBookOf rows T
    pub metas : ShowsOnlyFirstMetas rows.metas
    pub only : ShowsOnlyRows First rows
