-- The columns of a place of an order beside its authorization: what is shown of them, and what is read of that.
use Rattle.std.proofs.{Common.◌≡◌, Common.◌++◌, Common.List, Common.[], Common.◌∷◌, Common.arith, Common.false}
use Rattle.sqlite_value.specs.{Order.Row, declared.keys.Collation.TheVariants.Binary, declared.keys.Key.Key}
use Rattle.sqlite_sql.specs.{declared.ops.BinaryOp.TheVariants.Compare, declared.ops.CompareOp.TheVariants.Eq, Query.Join, Query.end, Query.inner, Term.Term}
use Rattle.sqlite_sql.specs.{Term.col, Term.op2}
use Rattle.store_columns.specs.{Columns.authorization_columns, Columns.listed_columns, Laws.AreToldApart, Limits.IsStoredAuthorization, Limits.IsStoredListed}
use Rattle.store_columns.specs.{TextColumns.HasTextAuthorization, declared.columns.AuthzColumns.AuthzColumns}
use Rattle.store_columns.specs.{declared.columns.OrderAuthzColumns.OrderAuthzColumns, declared.columns.Owned.Owned}
use Rattle.desk_model.specs.declared.rows.{AuthorizationRow.AuthorizationRow, Listed.Listed}
use Rattle.sql_tables.specs.Images.{authorization_params, listed_params}
use Rattle.sql_read.specs.Spelled.{FitsPlace, place_in}
use Rattle.sql_read.proofs.TableColumns.{authorization_back, order_status_at}

-- a place of an order, under its number, beside an authorization, and their columns
abbrev pub Place : Type 0
Place = Owned Listed × AuthorizationRow

-- the columns of a place and its authorization
abbrev pub PlaceColumns : Type 0
PlaceColumns = OrderAuthzColumns × AuthzColumns

-- those of these rows
abbrev pub place_columns : Place → PlaceColumns
place_columns x = (listed_columns x.0, authorization_columns x.1)

-- what each keeps in its table
abbrev pub IsStoredPlace : Place → Type 0
IsStoredPlace x = IsStoredListed x.0 × IsStoredAuthorization x.1

-- their columns tell them apart
pub place-apart : AreToldApart place_columns IsStoredPlace
place-apart row other kept kept2 same = grind arith

-- ---- what is joined

-- orders, places, and authorizations, side by side
abbrev pub place_from : Join
place_from = inner 4 (inner 6 (inner 5 end))

-- the place is of the order beside it, whose status is the first parameter, and the authorization is the one that stands there
abbrev pub place_tests : List Term
place_tests =
    op2 (Compare Eq Binary) (col 2 1) (col 1 0) ∷ op2 (Compare Eq Binary) (col 3 0) (col 2 3)
    ∷ op2 (Compare Eq Binary) (col 1 order_status_at) (col 0 0) ∷ []

-- by order, then by place
abbrev pub place_order : List (Term × Key)
place_order =
    (col 2 1, record { collation = Binary; descending = false }) ∷ (col 2 2, record { collation = Binary; descending = false }) ∷ []

-- ---- what is shown

-- the columns of `ord_authz` and of `authz`
abbrev pub place_project : List Term
place_project =
    col 2 1 ∷ col 2 2 ∷ col 2 3
    ∷ col 3 0 ∷ col 3 2 ∷ col 3 3 ∷ col 3 4 ∷ col 3 5 ∷ col 3 6 ∷ col 3 7 ∷ col 3 8 ∷ col 3 9 ∷ []

-- the values of a row
abbrev pub place_params : PlaceColumns → Row
place_params c = listed_params c.0 ++ authorization_params c.1

-- they are read back
pub place_back : (c : PlaceColumns) → place_in (place_params c) ≡ c
place_back c = λ i. (c.0, authorization_back c.1 i)

-- where the TEXT columns are UTF-8 the values are of the kinds of the columns
pub place_fits : (c : PlaceColumns) → HasTextAuthorization c.1 → FitsPlace (place_params c)
place_fits c h = grind arith
