-- The keys of answers, found by rows as they come.
use Rattle.std.specs.Prelude.{◌≡◌, ◌==◌, ℕ, List, [], map, find, filter_map, IfSome, IsSome, Option, option_and_then, option_map}
use Rattle.sqlite.specs.{Effect.Database, Store.Ghosts}
use Rattle.store_columns.specs.Columns.{account_columns, authorization_columns, challenge_columns}
use Rattle.store_columns.specs.Limits.{AreStored, IsStoredAccount, IsStoredAuthorization, IsStoredChallenge}
use Rattle.store_columns.specs.declared.columns.{AnswerKey.AnswerKey, BareChallenge.BareChallenge, FlatRows.FlatRows, Owned.Owned}
use Rattle.model_laws.specs.Placing.{puts}
use Rattle.desk_model.specs.{Keys.thumbprint, Kept.EachOf, declared.rows.AccountRow.AccountRow, declared.rows.AuthorizationRow.AuthorizationRow}
use Rattle.desk_model.specs.{declared.rows.Meta.Meta}
use Rattle.sql_read.specs.Spelled.{FitsChallenge, account_in, authorization_in, challenge_in}
use Rattle.sql_read.specs.{Checking.ShowsOnly, Checking.ShowsTable, Only.ShowsOnlyFirstRows}
use Rattle.sql_schema.specs.declared.accounts.TheConstants as account
use Rattle.sql_schema.specs.declared.authorizations.TheConstants as authz
use Rattle.sql_schema.specs.declared.challenges.TheConstants as chall
use Rattle.sql_upgrade.specs.declared.{additions.Additions.Additions, key_checks.AccountThumb.AccountThumb}
use Rattle.sql_upgrade.specs.declared.{key_checks.AuthorizationAccount.AuthorizationAccount}

-- the thumbprint of an account's key
abbrev pub thumb_of : AccountRow → AccountThumb
thumb_of a = record { number = a.number; thumb = thumbprint a.key }

-- those of all, by number
abbrev pub thumb_rows : List AccountRow → List AccountThumb
thumb_rows accounts = puts (λ t. t.number) (map thumb_of accounts) []

-- the account of an authorization
abbrev pub account_of : AuthorizationRow → AuthorizationAccount
account_of a = record { number = a.number; account = a.account }

-- those of all, by number
abbrev pub account_rows : List AuthorizationRow → List AuthorizationAccount
account_rows authorizations = puts (λ a. a.number) (map account_of authorizations) []

-- the key of the answer of a challenge of this authorization, where its account is found
abbrev pub found_key : List AuthorizationAccount → List AccountThumb → ℕ → ℕ → Option AnswerKey
found_key accounts thumbs authorization number =
    option_and_then (λ a. option_map (λ t. record { challenge = number; thumb = t.thumb }) (find (λ t. t.number == a.account) thumbs))
    (find (λ a. a.number == authorization) accounts)

-- that of a row, where it was answered
abbrev pub row_key : List AuthorizationAccount → List AccountThumb → Owned BareChallenge → Option AnswerKey
row_key accounts thumbs c = option_and_then (λ _. found_key accounts thumbs c.owner c.row.number) c.row.answered

-- those of rows
abbrev pub row_keys : List AuthorizationAccount → List AccountThumb → List (Owned BareChallenge) → List AnswerKey
row_keys accounts thumbs rows = filter_map (row_key accounts thumbs) rows

-- it is found, where the row was answered
abbrev pub HasKey : List AuthorizationAccount → List AccountThumb → Owned BareChallenge → Type 0
HasKey accounts thumbs c = IfSome c.row.answered (λ _. IsSome (found_key accounts thumbs c.owner c.row.number))

module _ {S : Type 0} (g : Ghosts S) (db : Database) where
  -- no challenges that were each answered under a key that is found are all that is shown
  abbrev pub LacksAnswers : List AuthorizationAccount → List AccountThumb → Type 0
  LacksAnswers accounts thumbs =
      (all : List (Owned BareChallenge)) → EachOf IsStoredChallenge all
      → ShowsOnly g chall.SELECT.now challenge_in challenge_columns FitsChallenge db all → EachOf (HasKey accounts thumbs) all → ⊥

  -- nor with their authorizations
  abbrev pub LacksOwners : List AccountThumb → Type 0
  LacksOwners thumbs =
      (rows : FlatRows) → AreStored rows → ShowsOnlyFirstRows g db rows → EachOf (HasKey (account_rows rows.authorizations) thumbs) rows.challenges → ⊥

  -- nor with the accounts of these
  abbrev pub LacksThumbs : Type 0
  LacksThumbs =
      (rows : FlatRows) → AreStored rows → ShowsOnlyFirstRows g db rows
      → EachOf (HasKey (account_rows rows.authorizations) (thumb_rows rows.accounts)) rows.challenges → ⊥

  -- the keys are those of the challenges that were shown
  abbrev pub ShowsAnswers : List AuthorizationAccount → List AccountThumb → List AnswerKey → Type 0
  ShowsAnswers accounts thumbs keys =
      ShowsTable g chall.SELECT.now challenge_in challenge_columns IsStoredChallenge db (λ rows. keys ≡ row_keys accounts thumbs rows)

  -- and the accounts are those of the authorizations that were shown
  pub record ShowsOwners (thumbs : List AccountThumb) (keys : List AnswerKey) : Type 0 where
    pub accounts : List AuthorizationAccount
    pub table : ShowsTable g authz.SELECT.now authorization_in authorization_columns IsStoredAuthorization db (λ rows. accounts ≡ account_rows rows)
    pub answers : ShowsAnswers accounts thumbs keys

  -- and the thumbprints those of the accounts that were shown
  pub record ShowsThumbs (keys : List AnswerKey) : Type 0 where
    pub thumbs : List AccountThumb
    pub table : ShowsTable g account.SELECT.now account_in account_columns IsStoredAccount db (λ rows. thumbs ≡ thumb_rows rows)
    pub owners : ShowsOwners thumbs keys

  -- with this row of the desk there are the keys that were found
  pub record HasKeys (meta : Meta) (additions : Additions) : Type 0 where
    pub same : additions.meta ≡ meta
    pub found : ShowsThumbs additions.keys.items
