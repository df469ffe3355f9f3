-- The columns of a challenge beside the key of its answer, where it has one, and beside its authorization: what is shown of them, and what is read of that.
use Rattle.std.proofs.Common.{◌≡◌, ◌++◌, ℕ, false, List, [], ◌∷◌, Option, option_map, ap, arith}
use Rattle.sqlite_value.specs.{Order.Row, declared.keys.Collation.TheVariants.Binary, declared.keys.Key.Key}
use Rattle.sqlite_sql.specs.Query.{Join, end, inner, left}
use Rattle.sqlite_sql.specs.{declared.ops.BinaryOp.TheVariants.Compare, declared.ops.CompareOp.TheVariants.Eq, Term.Term, Term.col, Term.op2}
use Rattle.store_columns.specs.{Columns.authorization_columns, Columns.challenge_columns, Columns.key_columns, Limits.IfRecorded, Limits.IsStoredAuthorization}
use Rattle.store_columns.specs.{Limits.IsStoredChallenge, Limits.IsStoredKey, Laws.AreToldApart, TextColumns.HasTextAuthorization, TextColumns.HasTextChallenge}
use Rattle.store_columns.specs.{declared.columns.AnswerKey.AnswerKey, declared.columns.AuthzColumns.AuthzColumns, declared.columns.BareChallenge.BareChallenge}
use Rattle.store_columns.specs.{declared.columns.ChallColumns.ChallColumns, declared.columns.ChallKeyColumns.ChallKeyColumns, declared.columns.Owned.Owned}
use Rattle.store_columns.proofs.RowsApart.{authorizations-apart, challenges-apart}
use Rattle.desk_model.specs.declared.rows.AuthorizationRow.{AuthorizationRow}
use Rattle.sql_tables.specs.Images.{authorization_params, blob_or_null, challenge_params, int_or_null}
use Rattle.sql_read.specs.Spelled.{FitsJoined, FitsKeyed, joined_in, keyed_in}
use Rattle.sql_read.proofs.TableColumns.{challenge_status_at}

-- ---- rows of two and of three tables side by side

-- a challenge and the key of its answer, and their columns
abbrev pub Keyed : Type 0
Keyed = Owned BareChallenge × Option AnswerKey

-- the columns of these
abbrev pub KeyedColumns : Type 0
KeyedColumns = ChallColumns × Option ChallKeyColumns

-- those of these rows
abbrev pub keyed_columns : Keyed → KeyedColumns
keyed_columns r = (challenge_columns r.0, option_map key_columns r.1)

-- with the authorization between them
abbrev pub Joined : Type 0
Joined = (Owned BareChallenge × AuthorizationRow) × Option AnswerKey

-- the columns of these
abbrev pub JoinedColumns : Type 0
JoinedColumns = (ChallColumns × AuthzColumns) × Option ChallKeyColumns

-- those of these rows
abbrev pub joined_columns : Joined → JoinedColumns
joined_columns r = ((challenge_columns r.0.0, authorization_columns r.0.1), option_map key_columns r.1)

-- what each keeps in its table
abbrev pub IsStoredKeyed : Keyed → Type 0
IsStoredKeyed r = IsStoredChallenge r.0 × IfRecorded IsStoredKey r.1

-- the three are in their limits
abbrev pub IsStoredJoined : Joined → Type 0
IsStoredJoined r = (IsStoredChallenge r.0.0 × IsStoredAuthorization r.0.1) × IfRecorded IsStoredKey r.1

-- the columns of a key, or of none, tell it apart
key-apart : AreToldApart (option_map key_columns) (IfRecorded IsStoredKey)
key-apart h k l g e = grind arith

-- so do those of the rows
pub keyed-apart : AreToldApart keyed_columns IsStoredKeyed
keyed-apart row other kept kept2 same =
    λ i. (
      challenges-apart row.0 other.0 kept.0 kept2.0 (ap (λ (c : KeyedColumns). c.0) same) i,
      key-apart row.1 other.1 kept.1 kept2.1 (ap (λ (c : KeyedColumns). c.1) same) i,
    )

-- they are told apart by their columns
pub joined-apart : AreToldApart joined_columns IsStoredJoined
joined-apart row other kept kept2 same =
    λ i. (
      (
        challenges-apart row.0.0 other.0.0 kept.0.0 kept2.0.0 (ap (λ (c : JoinedColumns). c.0.0) same) i,
        authorizations-apart row.0.1 other.0.1 kept.0.1 kept2.0.1 (ap (λ (c : JoinedColumns). c.0.1) same) i,
      ),
      key-apart row.1 other.1 kept.1 kept2.1 (ap (λ (c : JoinedColumns). c.1) same) i,
    )

-- ---- what is joined

-- two columns of rows side by side are the same
abbrev pub are_same : ℕ → ℕ → ℕ → ℕ → Term
are_same slot at other place = op2 (Compare Eq Binary) (col slot at) (col other place)

-- the number of a key is that of the challenge beside it
abbrev pub on_key : ℕ → ℕ → List Term
on_key key challenge = are_same key 0 challenge 0 ∷ []

-- challenges, and the keys that belong to them
abbrev pub keyed_from : Join
keyed_from = inner 8 (left 17 (on_key 2 1) end)

-- challenges, authorizations, and the keys that belong to these challenges
abbrev pub join_from : Join
join_from = inner 8 (inner 5 (left 17 (on_key 3 1) end))

-- challenges, authorizations, challenges again, and the keys that belong to the latter
abbrev pub beside_from : Join
beside_from = inner 8 (inner 5 (inner 8 (left 17 (on_key 4 3) end)))

-- the authorization is that of the challenge beside it, whose status is the first parameter
abbrev pub join_tests : List Term
join_tests = are_same 2 0 1 2 ∷ are_same 1 challenge_status_at 0 0 ∷ []

-- the authorization is that of the first challenge, whose number is the first parameter, and has the other one
abbrev pub beside_tests : List Term
beside_tests = are_same 2 0 1 2 ∷ are_same 3 2 2 0 ∷ are_same 1 0 0 0 ∷ []

-- places of orders, and these orders
abbrev pub listing_from : Join
listing_from = inner 6 (inner 4 end)

-- the order is that of the place, whose authorization is the first parameter
abbrev pub listing_tests : List Term
listing_tests = are_same 2 0 1 1 ∷ are_same 1 3 0 0 ∷ []

-- by the number of the other one
abbrev pub by_other : List (Term × Key)
by_other = (col 3 0, record { collation = Binary; descending = false }) ∷ []

-- ---- what is shown

-- the columns of `chall`, of `authz` and of `chall_key`
abbrev pub challenge_at : ℕ → List Term
challenge_at n = col n 0 ∷ col n 2 ∷ col n 3 ∷ col n 4 ∷ col n 5 ∷ col n 6 ∷ col n 7 ∷ col n 8 ∷ []

-- of an authorization
abbrev pub authorization_at : ℕ → List Term
authorization_at n = col n 0 ∷ col n 2 ∷ col n 3 ∷ col n 4 ∷ col n 5 ∷ col n 6 ∷ col n 7 ∷ col n 8 ∷ col n 9 ∷ []

-- of a key
abbrev pub key_at : ℕ → List Term
key_at n = col n 0 ∷ col n 2 ∷ []

-- those of each join
abbrev pub keyed_project : List Term
keyed_project = challenge_at 1 ++ key_at 2

-- a challenge, its authorization and its key
abbrev pub joined_project : List Term
joined_project = challenge_at 1 ++ (authorization_at 2 ++ key_at 3)

-- the same, behind the challenge that was asked for
abbrev pub beside_project : List Term
beside_project = challenge_at 3 ++ (authorization_at 2 ++ key_at 4)

-- those of `ord`
abbrev pub listing_project : List Term
listing_project = col 2 0 ∷ col 2 2 ∷ col 2 3 ∷ col 2 4 ∷ col 2 5 ∷ col 2 6 ∷ col 2 7 ∷ col 2 8 ∷ col 2 9 ∷ col 2 10 ∷ col 2 11 ∷ []

-- NULL for no key
abbrev pub key_or_nulls : Option ChallKeyColumns → Row
key_or_nulls k = int_or_null (option_map (λ c. c.chall) k) ∷ blob_or_null (option_map (λ c. c.thumb) k) ∷ []

-- the values of a row
abbrev pub keyed_params : KeyedColumns → Row
keyed_params c = challenge_params c.0 ++ key_or_nulls c.1

-- the row of three
abbrev pub joined_params : JoinedColumns → Row
joined_params c = challenge_params c.0.0 ++ (authorization_params c.0.1 ++ key_or_nulls c.1)

-- they are read back
pub keyed_back : (c : KeyedColumns) → keyed_in (keyed_params c) ≡ c
keyed_back c = grind arith

-- and of three
pub joined_back : (c : JoinedColumns) → joined_in (joined_params c) ≡ c
joined_back c = grind arith

-- where the TEXT columns are UTF-8 the values are of the kinds of the columns
pub keyed_fits : (c : KeyedColumns) → HasTextChallenge c.0 → FitsKeyed (keyed_params c)
keyed_fits c h = grind arith

-- and of three
pub joined_fits : (c : JoinedColumns) → HasTextChallenge c.0.0 × HasTextAuthorization c.0.1 → FitsJoined (joined_params c)
joined_fits c h = grind arith
