-- What is known of rows that are kept in tables: the part of each that is shown, and what a statement shows of each table by number.
use Rattle.std.proofs.Common.{◌≡◌, ℕ, ℤ, pos, All, Bool, List, [], ◌∷◌, map, refl, arith, rules, subst, sym}
use Rattle.std.proofs.{lemmas.List.Elements.All-from_recursion, lemmas.Simd.map-map}
use Rattle.std.specs.List.{AllByRecursion}
use Rattle.sqlite.specs.{Schema.Schema, declared.types.Value.TheVariants.Int}
use Rattle.sqlite_value.specs.Order.{Row, column}
use Rattle.sqlite_trees.specs.Tree.{Trees}
use Rattle.sqlite_sql.specs.{Program.overlay, Term.Term, Term.eval_all}
use Rattle.store_columns.specs.Columns.{account_columns, authorization_columns, challenge_columns, listed_columns, meta_columns, nonce_columns, summary_columns}
use Rattle.store_columns.specs.Columns.{key_columns, order_columns}
use Rattle.store_columns.specs.Limits.{IsStoredAccount, IsStoredAuthorization, IsStoredChallenge, IsStoredListed, IsStoredNonce, IsStoredOrder, IsStoredSummary}
use Rattle.store_columns.specs.Limits.{IsStoredKey, IsStoredMeta}
use Rattle.store_columns.specs.TextColumns.{HasTextAccount, HasTextAuthorization, HasTextChallenge, HasTextMeta, HasTextOrder, HasTextSummary}
use Rattle.store_columns.specs.{Flat.bare_row, Flat.without_challenges, declared.columns.ChallColumns.ChallColumns, declared.columns.NonceColumns.NonceColumns}
use Rattle.store_columns.specs.{Flat.summarized, declared.columns.OrderAuthzColumns.OrderAuthzColumns, declared.columns.OrderSummaryColumns.OrderSummaryColumns}
use Rattle.store_columns.specs.{Flat.without_listed, Laws.AreToldApart, declared.columns.MetaColumns.MetaColumns, declared.columns.OrderColumns.OrderColumns}
use Rattle.store_columns.specs.{declared.columns.AccountColumns.AccountColumns, declared.columns.ChallKeyColumns.ChallKeyColumns, declared.columns.Owned.Owned}
use Rattle.store_columns.specs.{declared.columns.AuthzColumns.AuthzColumns, declared.columns.AnswerKey.AnswerKey, declared.columns.BareChallenge.BareChallenge}
use Rattle.store_columns.proofs.RowsApart.{accounts-apart, authorizations-apart, challenges-apart, keys-apart, listed-apart, metas-apart, nonces-apart}
use Rattle.store_columns.proofs.RowsApart.{orders-apart, summaries-apart}
use Rattle.desk_model.specs.{Kept.EachOf, declared.rows.Listed.Listed, declared.objects.Nonce.Nonce, declared.rows.Meta.Meta, declared.rows.OrderRow.OrderRow}
use Rattle.desk_model.specs.{declared.rows.AccountRow.AccountRow, declared.rows.AuthorizationRow.AuthorizationRow, declared.rows.ChallengeRow.ChallengeRow}
use Rattle.sql_tables.specs.Images.{account_params, authorization_params, challenge_params, formatted_columns, key_params, listed_params, meta_params}
use Rattle.sql_tables.specs.Images.{nonce_params, order_params}
use Rattle.sql_tables.specs.Layouts.{Layout, account_layout, authorization_layout, challenge_layout, formatted_layout, key_layout, meta_layout, nonce_layout}
use Rattle.sql_tables.specs.Layouts.{order_layout}
use Rattle.sql_read.specs.Spelled.{FitsAccount, FitsAuthorization, FitsChallenge, FitsKey, FitsListed, FitsMeta, FitsNonce, FitsOrder, FitsSummary, account_in}
use Rattle.sql_read.specs.Spelled.{authorization_in, challenge_in, key_in, listed_in, meta_in, nonce_in, order_in, summary_in}
use Rattle.sql_read.proofs.Answered.{IsReading, by, passes}
use Rattle.sql_read.proofs.TableColumns.{account_back, account_fits, account_project, authorization_back, authorization_fits, authorization_project}
use Rattle.sql_read.proofs.TableColumns.{challenge_back, challenge_fits, challenge_project, key_fits, key_project, listed_fits, meta_fits, meta_project}
use Rattle.sql_read.proofs.TableColumns.{nonce_fits, nonce_project, order_back, order_fits, order_project, summary_fits, summary_params, summary_project}

-- ---- rows that are shown

-- rows, the part of each that is kept beside others, the columns that are written and read of that, and how they are shown
pub record RowFacts (X R C : Type 0) : Type 1 where
  pub bare : X → R
  pub write : R → C
  pub spelled : Row → C
  pub row : C → Row
  pub back : (c : C) → spelled (row c) ≡ c
  pub IsStored : R → Type 0
  pub apart : AreToldApart write IsStored
  pub HasText : C → Type 0
  pub Fits : Row → Type 0
  pub fits : (c : C) → HasText c → Fits (row c)

-- these, one after the other
abbrev pub facts_of : {X R C : Type 0} (bare : X → R) (write : R → C) (spelled : Row → C) (row : C → Row) → ((c : C) → spelled (row c) ≡ c)
    → (IsStored : R → Type 0) → AreToldApart write IsStored → (HasText : C → Type 0) (Fits : Row → Type 0) → ((c : C) → HasText c → Fits (row c))
    → RowFacts X R C
facts_of bare write spelled row back IsStored apart HasText Fits fits = record {
  bare = bare;
  write = write;
  spelled = spelled;
  row = row;
  back = back;
  IsStored = IsStored;
  apart = apart;
  HasText = HasText;
  Fits = Fits;
  fits = fits;
}

module _ {X R C : Type 0} (r : RowFacts X R C) where
  -- the columns of a row
  abbrev pub columns : X → C
  columns x = r.write (r.bare x)

  -- what is shown of a row
  abbrev pub cells : X → Row
  cells x = r.row (columns x)

  -- what is read of rows is what they spell
  pub columns_of : (xs : List X) (rows : List Row) → rows ≡ map cells xs → map r.spelled rows ≡ map columns xs
  columns_of xs rows are = let back = r.back in search (rules, map-map, back)

  -- the rows of columns that fit
  each_fits : (xs : List X) → EachOf r.HasText (map columns xs) → AllByRecursion r.Fits (map cells xs)
  each_fits [] h = tt
  each_fits (x ∷ xs) h = (r.fits (columns x) h.0, each_fits xs h.1)

  -- and so the rows that are shown
  pub all_fit : (xs : List X) (rows : List Row) → EachOf r.HasText (map columns xs) → rows ≡ map cells xs → All r.Fits rows
  all_fit xs rows h are = subst (All r.Fits) (sym are) (All-from_recursion r.Fits (map cells xs) (each_fits xs h))

-- ---- tables by number

-- rows of a table, and what a statement shows of them
pub record TableFacts (X R C : Type 0) : Type 1 where
  pub rows : RowFacts X R C
  pub open rows use *
  pub layout : Layout X
  pub project : List Term
  pub low : (db : Trees) → overlay db [] layout.table.tree ≡ db layout.table.tree
  pub shows : (params : Row) (x : X) → eval_all project (params ∷ layout.image x ∷ []) ≡ row (write (bare x))
  pub key : (x : X) → column (layout.image x) 0 ≡ Int (pos (layout.key x))

-- these, one after the other
abbrev table_of : {X R C : Type 0} (rows : RowFacts X R C) (layout : Layout X) (project : List Term)
    → ((db : Trees) → overlay db [] layout.table.tree ≡ db layout.table.tree)
    → ((params : Row) (x : X) → eval_all project (params ∷ layout.image x ∷ []) ≡ cells rows x)
    → ((x : X) → column (layout.image x) 0 ≡ Int (pos (layout.key x))) → TableFacts X R C
table_of rows layout project low shows key = record { rows = rows; layout = layout; project = project; low = low; shows = shows; key = key }

-- `meta`
abbrev pub meta_facts : TableFacts Meta Meta MetaColumns
meta_facts =
    table_of (facts_of (λ x. x) meta_columns meta_in meta_params (λ _. refl) IsStoredMeta metas-apart HasTextMeta FitsMeta meta_fits) meta_layout
    meta_project (λ _. refl) (λ _ _. refl) (λ _. refl)

-- rows of `meta` in any format are told apart by their columns, too
pub formatted-apart : AreToldApart formatted_columns (λ m. IsStoredMeta m.1)
formatted-apart row other kept others same = grind arith

-- `meta` in any format
abbrev pub formatted_facts : TableFacts (ℤ × Meta) (ℤ × Meta) MetaColumns
formatted_facts =
    table_of (facts_of (λ x. x) formatted_columns meta_in meta_params (λ _. refl) (λ m. IsStoredMeta m.1) formatted-apart HasTextMeta FitsMeta meta_fits)
    formatted_layout meta_project (λ _. refl) (λ _ _. refl) (λ _. refl)

-- `nonce`, which has no texts
abbrev pub nonce_facts : TableFacts Nonce Nonce NonceColumns
nonce_facts =
    table_of (facts_of (λ x. x) nonce_columns nonce_in nonce_params (λ _. refl) IsStoredNonce nonces-apart (λ _. Unit {0}) FitsNonce nonce_fits)
    nonce_layout nonce_project (λ _. refl) (λ _ _. refl) (λ _. refl)

-- `account`
abbrev pub account_facts : TableFacts AccountRow AccountRow AccountColumns
account_facts =
    table_of (facts_of (λ x. x) account_columns account_in account_params account_back IsStoredAccount accounts-apart HasTextAccount FitsAccount
    account_fits) account_layout account_project (λ _. refl) (λ _ _. refl) (λ _. refl)

-- `ord`, of orders without what they list
abbrev pub order_facts : TableFacts OrderRow OrderRow OrderColumns
order_facts =
    table_of (facts_of without_listed order_columns order_in order_params order_back IsStoredOrder orders-apart HasTextOrder FitsOrder order_fits)
    order_layout order_project (λ _. refl) (λ _ _. refl) (λ _. refl)

-- `ord`, of orders in summary
abbrev pub summary_facts : TableFacts OrderRow OrderRow OrderSummaryColumns
summary_facts =
    table_of (facts_of summarized summary_columns summary_in summary_params (λ _. refl) IsStoredSummary summaries-apart HasTextSummary FitsSummary
    summary_fits) order_layout summary_project (λ _. refl) (λ _ _. refl) (λ _. refl)

-- `authz`, of authorizations without their challenges
abbrev pub authorization_facts : TableFacts AuthorizationRow AuthorizationRow AuthzColumns
authorization_facts =
    table_of (facts_of without_challenges authorization_columns authorization_in authorization_params authorization_back IsStoredAuthorization
    authorizations-apart HasTextAuthorization FitsAuthorization authorization_fits) authorization_layout authorization_project (λ _. refl) (λ _ _. refl) (λ
    _. refl)

-- `chall`, of challenges without the keys of their answers
abbrev pub challenge_facts : TableFacts (Owned ChallengeRow) (Owned BareChallenge) ChallColumns
challenge_facts =
    table_of (facts_of bare_row challenge_columns challenge_in challenge_params challenge_back IsStoredChallenge challenges-apart HasTextChallenge
    FitsChallenge challenge_fits) challenge_layout challenge_project (λ _. refl) (λ _ _. refl) (λ _. refl)

-- `chall_key`
abbrev pub key_facts : TableFacts AnswerKey AnswerKey ChallKeyColumns
key_facts =
    table_of (facts_of (λ x. x) key_columns key_in key_params (λ _. refl) IsStoredKey keys-apart (λ _. Unit {0}) FitsKey key_fits) key_layout key_project
    (λ _. refl) (λ _ _. refl) (λ _. refl)

-- what orders list, in a table of its own order
abbrev pub listed_facts : RowFacts (Owned Listed) (Owned Listed) OrderAuthzColumns
listed_facts = facts_of (λ x. x) listed_columns listed_in listed_params (λ _. refl) IsStoredListed listed-apart (λ _. Unit {0}) FitsListed listed_fits

-- ---- what is read of a table

module _ {X R C : Type 0} (t : TableFacts X R C) where
  -- a text that reads its rows, by number
  abbrev pub IsReadingOf : Schema → Term → List ℕ → List Term → Row → Type 0
  IsReadingOf schema limit text tests params = IsReading schema limit text t.layout.table.tree tests t.project (by 0 ∷ []) params

  -- a row passes the tests of a statement
  abbrev pub picks : List Term → Row → X → Bool
  picks tests params x = passes tests params (t.layout.image x)
