-- Readings of a desk in format 1, whose rows count as those of today's format.
use Rattle.std.specs.Prelude.{◌≡◌, ℕ, ℤ, List, [], ◌∷◌, map, filter_map, if◌then◌else◌, Option, option_map, replicate}
use Rattle.std.specs.Ordering.{int_eq}
use Rattle.sqlite.specs.{Held.Held, Store.Ghosts, State.State, State.HasCleanDisk}
use Rattle.store_columns.specs.{Columns.first_format, Columns.known_format, Columns.meta_columns, Limits.IsStoredMeta}
use Rattle.store_columns.specs.declared.columns.{ChallColumns.ChallColumns, ChallKeyColumns.ChallKeyColumns, MetaColumns.MetaColumns, StoredRows.StoredRows}
use Rattle.desk_model.specs.{Tables.Tables, declared.rows.Meta.Meta}
use Rattle.sql_read.specs.Shown.{IsShown}
use Rattle.sql_read.specs.Spelled.{account_in, authorization_in, challenge_in, listed_in, meta_in, nonce_in, order_in}
use Rattle.sql_schema.specs.declared.accounts.TheConstants as account
use Rattle.sql_schema.specs.declared.authorizations.TheConstants as authz
use Rattle.sql_schema.specs.declared.challenges.TheConstants as chall
use Rattle.sql_schema.specs.declared.meta.TheConstants as meta
use Rattle.sql_schema.specs.declared.nonces.TheConstants as nonce
use Rattle.sql_schema.specs.declared.orders.TheConstants as ord
use Rattle.sql_schema.specs.declared.listed.TheConstants as ord_authz
use Rattle.sql_tables.specs.Holds.{HoldsFirst}

-- what is so of whatever tables the database held in format 1, where the disk is honest
abbrev pub ForFirst : State → State → (Tables → Type 0) → Type 0
ForFirst old new P = HasCleanDisk new → (T : Tables) → HoldsFirst old.now T → P T

-- format 1 counts as today's; any other as format 1, which no book has
abbrev pub raised : ℤ → ℤ
raised format = if int_eq format first_format then known_format else first_format

-- and so the row of `meta`
abbrev pub raised_meta : MetaColumns → MetaColumns
raised_meta c = record c { format = raised c.format }

-- in the place of a thumbprint
abbrev pub zeros : List ℕ
zeros = replicate 32 0

-- zeros in the place of the key of an answer
abbrev pub blank_key : ChallColumns → Option ChallKeyColumns
blank_key c = option_map (λ _. record { chall = c.num; thumb = zeros }) c.answered

module _ {S : Type 0} (g : Ghosts S) where
  -- the database showed one row of `meta`, which in today's format is this one's
  pub record ShowsFirstMeta (conn : Held S) (row : Meta) : Type 0 where
    pub read : List MetaColumns
    pub shown : IsShown g meta.SELECT.now meta_in conn read
    pub raised : map raised_meta read ≡ map meta_columns (row ∷ [])
    pub stored : IsStoredMeta row

  -- the database has the tables of format 1 with all columns, and showed these rows of them, and zeros stand for keys of answers
  pub record AreFirstShown (conn : Held S) (stored : StoredRows) : Type 0 where
    pub read : List MetaColumns
    pub metas : IsShown g meta.SELECT.now meta_in conn read
    pub raised_metas : stored.metas ≡ map raised_meta read
    pub nonces : IsShown g nonce.SELECT.now nonce_in conn stored.nonces
    pub accounts : IsShown g account.SELECT.now account_in conn stored.accounts
    pub orders : IsShown g ord.SELECT.now order_in conn stored.orders
    pub authorizations : IsShown g authz.SELECT.now authorization_in conn stored.authzs
    pub listed : IsShown g ord_authz.SELECT.now listed_in conn stored.order_authzs
    pub challenges : IsShown g chall.SELECT.now challenge_in conn stored.challs
    pub blank_keys : stored.chall_keys ≡ filter_map blank_key stored.challs
