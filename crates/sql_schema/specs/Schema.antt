-- The schemas of format 1, seven tables and ten indexes, and of format 2, which has one table more.
use Rattle.std.specs.Prelude.{ℕ, true, false, List, [], ◌∷◌, take, Some, None, codes, slice_index_or}
use Rattle.sqlite.specs.Kind.TheVariants.{Integer, Text, Blob}
use Rattle.sqlite.specs.{Collation.TheVariants.Binary, Schema.Schema, Kind.Kind, declared.types.Value.TheVariants.Null}
use Rattle.sqlite_schema.specs.declared.schema.{Table.Table, Column.Column, Index.Index, Reference.Reference, Action.TheVariants.NoAction}
use Rattle.sqlite_value.specs.Keys.{plain}

-- ---- the parts of a table

-- a column that may be NULL; an INTEGER PRIMARY KEY is declared so, too
abbrev pub nullable : List ℕ → Kind → Column
nullable name kind = record { name = name; kind = kind; is_strict = true; not_null = false; default = Null; collation = Binary }

-- a column that is never NULL
abbrev pub filled : List ℕ → Kind → Column
filled name kind = record (nullable name kind) { not_null = true }

-- the column at this place, 0 for the INTEGER PRIMARY KEY, has a number of the parent, as a foreign key without actions
abbrev pub refers : ℕ → List ℕ → Reference
refers place parent =
    record { columns = place ∷ []; parent = parent; parent_columns = codes "num" ∷ []; on_delete = NoAction; on_update = NoAction; is_deferred = false }

-- a table whose first column is its INTEGER PRIMARY KEY, with its rows in this tree
abbrev pub table_as : List ℕ → ℕ → List Column → Table
table_as name tree columns = record {
  name = name;
  tree = tree;
  columns = columns;
  key = Some 0;
  primary = 0 ∷ [];
  uniques = [];
  orders = [];
  checks = [];
  references = [];
  computed = [];
  stamps = record { places = []; terms = []; formats = [] };
  is_counted = false;
}

-- an index of CREATE INDEX: its tree, the tree of its table, and the places of its columns from 1
abbrev pub index_as : List ℕ → ℕ → ℕ → List ℕ → Index
index_as name tree table columns = record { name = name; tree = tree; table = table; columns = columns; order = plain; is_unique = false }

-- the index that a UNIQUE or a composite key brings
abbrev pub automatic : List ℕ → ℕ → ℕ → List ℕ → Index
automatic name tree table columns = record (index_as name tree table columns) { is_unique = true }

-- ---- the tables

-- one row
abbrev pub meta_table : Table
meta_table =
    table_as (codes "meta") 0
    (nullable (codes "id") Integer
    ∷ filled (codes "format") Integer
    ∷ filled (codes "base") Text
    ∷ filled (codes "nonce_life") Integer
    ∷ filled (codes "order_life") Integer
    ∷ filled (codes "authz_life") Integer
    ∷ filled (codes "clock") Integer
    ∷ filled (codes "nonces") Integer
    ∷ filled (codes "accounts") Integer
    ∷ filled (codes "orders") Integer
    ∷ filled (codes "authzs") Integer
    ∷ filled (codes "challs") Integer
    ∷ [])

-- a row an open nonce
abbrev pub nonce_table : Table
nonce_table =
    table_as (codes "nonce") 1
    (nullable (codes "serial") Integer ∷ filled (codes "random") Blob ∷ filled (codes "issued") Integer ∷ [])

-- no two accounts have one key
abbrev pub account_table : Table
account_table =
    record (table_as (codes "account") 2
    (nullable (codes "num") Integer
    ∷ filled (codes "jwk") Text
    ∷ filled (codes "contacts") Text
    ∷ filled (codes "opened") Integer
    ∷ nullable (codes "ended") Integer
    ∷ nullable (codes "end_kind") Text
    ∷ filled (codes "status") Text
    ∷ [])) { uniques = (2 ∷ []) ∷ []; orders = plain ∷ [] }

-- a row an order
abbrev pub ord_table : Table
ord_table =
    record (table_as (codes "ord") 4
    (nullable (codes "num") Integer
    ∷ filled (codes "account") Integer
    ∷ filled (codes "made") Integer
    ∷ filled (codes "expires") Integer
    ∷ nullable (codes "finalized") Integer
    ∷ nullable (codes "csr") Blob
    ∷ nullable (codes "certified") Integer
    ∷ nullable (codes "cert") Blob
    ∷ nullable (codes "failed") Integer
    ∷ nullable (codes "problem") Text
    ∷ filled (codes "status") Text
    ∷ [])) { references = refers 2 (codes "account") ∷ [] }

-- a row an authorization
abbrev pub authz_table : Table
authz_table =
    record (table_as (codes "authz") 5
    (nullable (codes "num") Integer
    ∷ filled (codes "account") Integer
    ∷ filled (codes "name") Text
    ∷ filled (codes "wildcard") Integer
    ∷ filled (codes "made") Integer
    ∷ filled (codes "expires") Integer
    ∷ nullable (codes "ended") Integer
    ∷ nullable (codes "end_kind") Text
    ∷ filled (codes "status") Text
    ∷ [])) { references = refers 2 (codes "account") ∷ [] }

-- the key is the order and the place, so the engine numbers the rows
abbrev pub ord_authz_table : Table
ord_authz_table =
    record (table_as (codes "ord_authz") 6
    (filled (codes "ord") Integer ∷ filled (codes "place") Integer ∷ filled (codes "authz") Integer ∷ [])) {
      key = None;
      primary = 1 ∷ 2 ∷ [];
      uniques = (1 ∷ 2 ∷ []) ∷ [];
      orders = plain ∷ [];
      references = refers 1 (codes "ord") ∷ refers 3 (codes "authz") ∷ [];
    }

-- a row a challenge
abbrev pub chall_table : Table
chall_table =
    record (table_as (codes "chall") 8
    (nullable (codes "num") Integer
    ∷ filled (codes "authz") Integer
    ∷ filled (codes "kind") Text
    ∷ filled (codes "token") Blob
    ∷ nullable (codes "answered") Integer
    ∷ nullable (codes "reported") Integer
    ∷ nullable (codes "outcome") Text
    ∷ filled (codes "status") Text
    ∷ [])) { references = refers 2 (codes "authz") ∷ [] }

-- a row an answered challenge; its tree comes after those of all indexes
abbrev pub chall_key_table : Table
chall_key_table =
    record (table_as (codes "chall_key") 17 (nullable (codes "chall") Integer ∷ filled (codes "thumb") Blob ∷ [])) {
      references = refers 0 (codes "chall") ∷ [];
    }

-- those of format 1, in the order in which they are made
abbrev pub first_tables : List Table
first_tables = meta_table ∷ nonce_table ∷ account_table ∷ ord_table ∷ authz_table ∷ ord_authz_table ∷ chall_table ∷ []

-- those of format 2
abbrev pub desk_tables : List Table
desk_tables =
    meta_table ∷ nonce_table ∷ account_table ∷ ord_table ∷ authz_table ∷ ord_authz_table ∷ chall_table ∷ chall_key_table ∷ []

-- ---- the indexes

-- those that the tables bring, then those of CREATE INDEX
abbrev pub desk_indexes : List Index
desk_indexes =
    automatic (codes "sqlite_autoindex_account_1") 3 2 (2 ∷ [])
    ∷ automatic (codes "sqlite_autoindex_ord_authz_1") 7 6 (1 ∷ 2 ∷ [])
    ∷ index_as (codes "nonce_issued") 9 1 (3 ∷ [])
    ∷ index_as (codes "ord_account") 10 4 (2 ∷ [])
    ∷ index_as (codes "ord_status_expires") 11 4 (11 ∷ 4 ∷ [])
    ∷ index_as (codes "authz_account_name") 12 5 (2 ∷ 3 ∷ [])
    ∷ index_as (codes "authz_status_expires") 13 5 (9 ∷ 6 ∷ [])
    ∷ index_as (codes "ord_authz_authz") 14 6 (3 ∷ [])
    ∷ index_as (codes "chall_authz") 15 8 (2 ∷ [])
    ∷ index_as (codes "chall_status") 16 8 (8 ∷ [])
    ∷ []

-- ---- the schemas

abbrev schema_of : List Table → List Index → Schema
schema_of tables indexes = record { tables = tables; indexes = indexes; views = [] }

-- no table, index or view
abbrev pub no_schema : Schema
no_schema = schema_of [] []

-- the tables and indexes of format 1, and no other object
abbrev pub first_schema : Schema
first_schema = schema_of first_tables desk_indexes

-- those of format 2, and no other object
abbrev pub desk_schema : Schema
desk_schema = schema_of desk_tables desk_indexes

-- how many indexes there are before each of the statements that make the schema, and after all
abbrev indexes_before : List ℕ
indexes_before = 0 ∷ 0 ∷ 0 ∷ 1 ∷ 1 ∷ 1 ∷ 2 ∷ 2 ∷ 3 ∷ 4 ∷ 5 ∷ 6 ∷ 7 ∷ 8 ∷ 9 ∷ 10 ∷ 10 ∷ []

-- how many tables there are then
abbrev tables_before : List ℕ
tables_before = 0 ∷ 1 ∷ 2 ∷ 3 ∷ 4 ∷ 5 ∷ 6 ∷ 7 ∷ 7 ∷ 7 ∷ 7 ∷ 7 ∷ 7 ∷ 7 ∷ 7 ∷ 7 ∷ 8 ∷ []

-- the schema after so many of the statements
abbrev pub schema_at : ℕ → Schema
schema_at steps = schema_of (take (slice_index_or tables_before steps 8) desk_tables) (take (slice_index_or indexes_before steps 10) desk_indexes)
