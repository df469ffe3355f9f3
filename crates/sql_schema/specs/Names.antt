-- The names of the tables and indexes.
use Rattle.std.specs.{Prelude.ℕ, Prelude.Bool, Prelude.List, Prelude.[], Prelude.◌∷◌, Prelude.codes, Prelude.is_some, List.list_all}
use Rattle.sqlite.specs.{Schema.Schema, Change.is_used}
use Rattle.sqlite_schema.specs.Names.{index_named}

-- the table that format 1 lacks
abbrev pub key_table_name : List ℕ
key_table_name = codes "chall_key"

-- the eight indexes of CREATE INDEX
abbrev pub index_names : List (List ℕ)
index_names =
    codes "nonce_issued"
    ∷ codes "ord_account"
    ∷ codes "ord_status_expires"
    ∷ codes "authz_account_name"
    ∷ codes "authz_status_expires"
    ∷ codes "ord_authz_authz"
    ∷ codes "chall_authz"
    ∷ codes "chall_status"
    ∷ []

-- a table, an index or a view has the name of the table that format 1 lacks
abbrev pub uses_key_table : Schema → Bool
uses_key_table schema = is_used schema key_table_name

-- each of the eight names is that of an index
abbrev pub has_all_indexes : Schema → Bool
has_all_indexes schema = list_all (λ name. is_some (index_named schema name)) index_names
