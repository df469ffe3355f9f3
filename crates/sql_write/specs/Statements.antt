-- The statements that a transaction runs, by what it is to do.
use Rattle.std.specs.Prelude.{ℕ, ℤ, zero, suc, pos, List, [], ◌∷◌, ◌++◌, nat_lt, Bool, false, ◌||◌, Option, Some, None, is_some, option_map}
use Rattle.std.specs.List.{flat_map}
use Rattle.sqlite.specs.{Order.Row, declared.types.Value.TheVariants.Int}
use Rattle.store_columns.specs.Columns.{account_columns, authorization_columns, challenge_columns, key_columns, known_format, listed_columns, nonce_columns}
use Rattle.store_columns.specs.Columns.{order_columns}
use Rattle.store_columns.specs.{Flat.answer_key, Flat.bare_row, declared.columns.AnswerKey.AnswerKey, declared.columns.Owned.Owned}
use Rattle.desk_model.specs.{Change.applied_one, Tables.Tables, Questions.account_on, Questions.authorization_on, Questions.order_on}
use Rattle.desk_model.specs.declared.rows.Change.TheVariants.{PutMeta, PutNonce, RemoveNonce, PutAccount, PutAuthorization, PutOrder}
use Rattle.desk_model.specs.declared.{objects.Nonce.Nonce, rows.AccountRow.AccountRow, rows.AuthorizationRow.AuthorizationRow, rows.ChallengeRow.ChallengeRow}
use Rattle.desk_model.specs.declared.{rows.Change.Change, rows.Listed.Listed, rows.Meta.Meta, rows.OrderRow.OrderRow, rows.Counters.Counters}
use Rattle.sql_write.specs.Differences.{account_difference, authorization_difference, challenge_difference, key_difference, meta_difference, order_difference}
use Rattle.sql_write.specs.declared.stored.Write.TheVariants.{Upsert, Insert, Update}
use Rattle.sql_write.specs.{Write.write, Stored.stored_challenge, Stored.stored_key, declared.stored.Write.Write}
use Rattle.sql_schema.specs.declared.accounts.TheConstants as account
use Rattle.sql_schema.specs.declared.authorizations.TheConstants as authz
use Rattle.sql_schema.specs.declared.challenges.TheConstants as chall
use Rattle.sql_schema.specs.declared.keys.TheConstants as chall_key
use Rattle.sql_schema.specs.declared.meta.TheConstants as meta
use Rattle.sql_schema.specs.declared.nonces.TheConstants as nonce
use Rattle.sql_schema.specs.declared.orders.TheConstants as ord
use Rattle.sql_schema.specs.declared.listed.TheConstants as ord_authz
use Rattle.sql_schema.specs.Definitions.{definition_at}
use Rattle.sql_tables.specs.Images.{account_updates, account_params, authorization_updates, authorization_params, challenge_updates, challenge_params}
use Rattle.sql_tables.specs.Images.{formatted_columns, key_params, listed_params, meta_updates, meta_params, nonce_params, order_updates, order_params}

-- a statement, with its parameters
pub record Sql : Type 0 where
  pub text : List ℕ
  pub params : Row

-- ---- of a row, by how it is written

-- the texts that write rows of a table: that inserts one, that puts one, and that renews one
abbrev Texts : Type 0
Texts = (record { now : List ℕ }) × (record { now : List ℕ }) × (record { now : List ℕ })

-- how rows are given to the statements of their table: all that is kept of one, and what renews it
pub record RowWriting (X : Type 0) : Type 0 where
  pub texts : Texts
  pub all : X → Row
  pub updates : X → Row

-- of these three texts the one for this write, with all the parameters or those that renew
abbrev pub sql_by : List ℕ → List ℕ → List ℕ → Write → Row → Row → Sql
sql_by insert upsert update Insert all updates = record { text = insert; params = all }
sql_by insert upsert update Upsert all updates = record { text = upsert; params = all }
sql_by insert upsert update Update all updates = record { text = update; params = updates }

abbrev pub writes : {X : Type 0} → RowWriting X → Write → X → List Sql
writes rows write row = sql_by rows.texts.0.now rows.texts.1.now rows.texts.2.now write (rows.all row) (rows.updates row) ∷ []

-- of a table of which no call moves a part
abbrev unmoved : {X : Type 0} → Texts → (X → Row) → RowWriting X
unmoved texts all = record { texts = texts; all = all; updates = all }

-- ---- each table

abbrev pub meta_writing : RowWriting (ℤ × Meta)
meta_writing = record { texts = meta.WRITING; all = λ row. meta_params (formatted_columns row); updates = λ row. meta_updates (formatted_columns row) }

abbrev pub nonce_writing : RowWriting Nonce
nonce_writing = unmoved nonce.WRITING (λ row. nonce_params (nonce_columns row))

abbrev pub account_writing : RowWriting AccountRow
account_writing = record { texts = account.WRITING; all = λ row. account_params (account_columns row); updates = λ row. account_updates (account_columns row) }

abbrev pub order_writing : RowWriting OrderRow
order_writing = record { texts = ord.WRITING; all = λ row. order_params (order_columns row); updates = λ row. order_updates (order_columns row) }

abbrev pub authorization_writing : RowWriting AuthorizationRow
authorization_writing = record {
  texts = authz.WRITING;
  all = λ row. authorization_params (authorization_columns row);
  updates = λ row. authorization_updates (authorization_columns row);
}

abbrev pub listed_writing : RowWriting (Owned Listed)
listed_writing = unmoved ord_authz.WRITING (λ row. listed_params (listed_columns row))

-- at a place of this order
abbrev pub writes_listed : Write → ℕ → Listed → List Sql
writes_listed write order row = writes listed_writing write (record { owner = order; row = row })

abbrev pub challenge_writing : RowWriting (Owned ChallengeRow)
challenge_writing = record {
  texts = chall.WRITING;
  all = λ row. challenge_params (challenge_columns (bare_row row));
  updates = λ row. challenge_updates (challenge_columns (bare_row row));
}

abbrev pub key_writing : RowWriting AnswerKey
key_writing = unmoved chall_key.WRITING (λ row. key_params (key_columns row))

abbrev pub removes_nonce : ℕ → List Sql
removes_nonce serial = record { text = nonce.DELETE.now; params = Int (pos serial) ∷ [] } ∷ []

-- ---- of a row, by what is known to stand in its place

-- those of what is there, none where nothing is
abbrev pub of_some : {X : Type 0} → (X → List Sql) → Option X → List Sql
of_some of None = []
of_some of (Some x) = of x

abbrev pub saves_meta : Option Meta → Meta → List Sql
saves_meta stored row = of_some (λ m. writes meta_writing m (known_format, row)) (write (option_map (λ old. meta_difference old row) stored) false)

-- one whose serial is above the last that was given is new
abbrev pub saves_nonce : ℕ → Nonce → List Sql
saves_nonce last row = of_some (λ m. writes nonce_writing m row) (write None (nat_lt last row.serial))

abbrev pub saves_account : Option AccountRow → ℕ → AccountRow → List Sql
saves_account stored last row =
    of_some (λ m. writes account_writing m row) (write (option_map (λ old. account_difference old row) stored) (nat_lt last row.number))

-- how an order is written
abbrev pub order_manner : Option OrderRow → ℕ → OrderRow → Option Write
order_manner stored last row = write (option_map (λ old. order_difference old row) stored) (nat_lt last row.number)

-- what it lists is not written where it is renewed, as it keeps that
abbrev pub lists : Write → OrderRow → List Sql
lists Update row = []
lists Upsert row = flat_map (writes_listed Upsert row.number) row.listed
lists Insert row = flat_map (writes_listed Insert row.number) row.listed

abbrev pub saves_order : Option OrderRow → ℕ → OrderRow → List Sql
saves_order stored last row = of_some (λ m. writes order_writing m row ++ lists m row) (order_manner stored last row)

abbrev pub saves_challenge : Option AuthorizationRow → ℕ → ℕ → ChallengeRow → List Sql
saves_challenge stored last authorization row =
    of_some (λ m. writes challenge_writing m (record { owner = authorization; row = row }))
    (write (option_map (λ old. challenge_difference old row) (stored_challenge stored row.number)) (nat_lt last row.number))

-- whether no key stands in the place of that of this challenge: it is known, and has none, or it is new
abbrev pub lacks_key : Option ChallengeRow → ℕ → ℕ → Bool
lacks_key stored last number = is_some stored || nat_lt last number

-- the key of an answer
abbrev pub saves_key : Option AuthorizationRow → ℕ → AnswerKey → List Sql
saves_key stored last key =
    of_some (λ m. writes key_writing m key)
    (write (option_map (λ old. key_difference old key) (stored_key stored key.challenge))
    (lacks_key (stored_challenge stored key.challenge) last key.challenge))

-- that of a challenge's answer, if there is one
abbrev pub saves_answer : Option AuthorizationRow → ℕ → ChallengeRow → List Sql
saves_answer stored last row = of_some (saves_key stored last) (answer_key row)

-- the challenges of an authorization, then the keys of their answers
abbrev pub saves_challenges : Option AuthorizationRow → ℕ → ℕ → List ChallengeRow → List Sql
saves_challenges stored last authorization rows = flat_map (saves_challenge stored last authorization) rows ++ flat_map (saves_answer stored last) rows

-- an authorization, without its challenges
abbrev pub saves_bare_authorization : Option AuthorizationRow → ℕ → AuthorizationRow → List Sql
saves_bare_authorization stored last row =
    of_some (λ m. writes authorization_writing m row)
    (write (option_map (λ old. authorization_difference old row) stored) (nat_lt last row.number))

-- and then its challenges
abbrev pub saves_authorization : Option AuthorizationRow → Counters → AuthorizationRow → List Sql
saves_authorization stored last row =
    saves_bare_authorization stored last.authorizations row ++ saves_challenges stored last.challenges row.number row.challenges

-- ---- of all

-- a change behind others, by rows that were known before all of them, and the last number of each kind then
abbrev pub statements_of : Tables → Counters → Change → List Sql
statements_of part last (PutMeta row) = saves_meta (Some part.meta) row
statements_of part last (PutNonce row) = saves_nonce last.nonces row
statements_of part last (RemoveNonce serial) = removes_nonce serial
statements_of part last (PutAccount row) = saves_account (account_on part row.number) last.accounts row
statements_of part last (PutAuthorization row) = saves_authorization (authorization_on part row.number) last row
statements_of part last (PutOrder row) = saves_order (order_on part row.number) last.orders row

-- changes, in their order: what is known changes with each
abbrev pub statements_from : Counters → Tables → List Change → List Sql
statements_from last part [] = []
statements_from last part (c ∷ cs) = statements_of part last c ++ statements_from last (applied_one c part) cs

-- by what is known before all of them
unfoldable pub save_statements : Tables → List Change → List Sql
save_statements part changes = statements_from part.meta.counters part changes

-- the table or the index that this step defines
abbrev pub defines : ℕ → List Sql
defines step = record { text = definition_at step; params = [] } ∷ []

-- so many tables and indexes
abbrev pub defines_before : ℕ → List Sql
defines_before zero = []
defines_before (suc step) = defines_before step ++ defines step

-- the tables and indexes of a desk, and its row of `meta`
unfoldable pub make_statements : Meta → List Sql
make_statements meta = defines_before 16 ++ writes meta_writing Upsert (known_format, meta)

-- the table that format 1 lacks, the keys of answers, and the row of `meta`
unfoldable pub upgrade_statements : Meta → List AnswerKey → List Sql
upgrade_statements meta keys = defines 15 ++ (flat_map (writes key_writing Upsert) keys ++ writes meta_writing Upsert (known_format, meta))
