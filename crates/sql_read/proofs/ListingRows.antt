-- What the join of places with orders shows: the order of each place that lists an authorization.
use Rattle.std.proofs.Common.{◌≡◌, ◌&&◌, ◌==◌, ℕ, pos, true, cond, List, [], ◌∷◌, map, filter, flat_map, refl, ◌∙◌}
use Rattle.std.specs.List.{list_all}
use Rattle.sqlite.specs.declared.types.Value.TheVariants.{Int}
use Rattle.sqlite_value.specs.Order.{Row}
use Rattle.sqlite_trees.specs.Tree.{Trees}
use Rattle.sqlite_sql.specs.{Query.Output, Query.Query, Query.end, Query.inner, Query.matches, Query.output, Term.Env, Term.holds}
use Rattle.store_columns.specs.{Columns.order_columns, Flat.without_listed, Limits.IsStoredListed, Limits.IsStoredOrder, TextColumns.HasTextOrder}
use Rattle.store_columns.specs.declared.columns.{OrderColumns.OrderColumns, Owned.Owned}
use Rattle.store_columns.proofs.RowsApart.{orders-apart}
use Rattle.model_laws.proofs.Basics.{each, each_all}
use Rattle.desk_model.specs.{Kept.EachOf, declared.rows.Listed.Listed, declared.rows.OrderRow.OrderRow}
use Rattle.sql_tables.specs.{Hidden.hidden, Images.listed_cells, Images.order_image, Images.order_params}
use Rattle.sql_read.specs.{Bounded.bounded, Queries.number, Spelled.FitsOrder, Spelled.order_in}
use Rattle.sql_read.proofs.{Answered.all_rows, Answered.by, Answered.picked_from, Beside.owner, Beside.told_by, JoinParts.listing_from}
use Rattle.sql_read.proofs.{JoinParts.listing_project, JoinParts.listing_tests, SideBySide.shown_if, SideBySide.spread, SideBySide.tests_first}
use Rattle.sql_read.proofs.{TableColumns.order_back, TableColumns.order_fits, TableFacts.RowFacts, TableFacts.cells, TableFacts.facts_of, Tests.is_number}
use Rattle.sql_read.proofs.{Tests.number_test, Tests.same_bounded}

-- what is known of a place beside its order, of which the order is shown
abbrev pub listing_facts : RowFacts (Owned Listed × OrderRow) OrderRow OrderColumns
listing_facts =
    facts_of (λ x. without_listed x.1) order_columns order_in order_params order_back IsStoredOrder orders-apart HasTextOrder FitsOrder order_fits

-- the statement
abbrev pub listing_query : Query
listing_query = picked_from all_rows listing_from listing_tests listing_project (by 1 ∷ by 2 ∷ [])

-- an order beside the place that it is ordered by
abbrev pub shown : Owned Listed × OrderRow → Output
shown x = (Int (pos x.0.owner) ∷ Int (pos x.0.row.place) ∷ [], cells listing_facts x)

-- the rows of a place, under its hidden number, and of an order
abbrev filled : Row → ℕ × Owned Listed → OrderRow → Env
filled params t o = params ∷ hidden listed_cells t ∷ order_image o ∷ []

-- SQL's tests are the model's
passes_as : (n : ℕ) (t : ℕ × Owned Listed) (o : OrderRow) → (t.1.row.authorization == bounded n) ≡ (t.1.row.authorization == n)
    → list_all (holds (filled (number n) t o)) listing_tests ≡ ((o.number == t.1.owner) && (t.1.row.authorization == n))
passes_as n t o same = λ i. is_number o.number t.1.owner i && (number_test t.1.row.authorization (bounded n) ∙ same) i

-- the order of a place
abbrev pub of_place : List OrderRow → Owned Listed → List Output
of_place os l = flat_map (λ o. shown (l, o) ∷ []) (told_by owner (λ o. o.number) os l)

module _ (db : Trees) (os : List OrderRow) (orders_are : db 4 ≡ map order_image os) (n : ℕ) where
  -- of all orders that of the place, where it lists the authorization
  with_order : (t : ℕ × Owned Listed) → (t.1.row.authorization == bounded n) ≡ (t.1.row.authorization == n)
      → map (output listing_query) (matches db listing_tests (inner 4 end) (number n ∷ hidden listed_cells t ∷ []))
      ≡ cond (t.1.row.authorization == n) (of_place os t.1) []
  with_order t same =
      spread listing_query db listing_tests end (number n ∷ hidden listed_cells t ∷ []) order_image 4
      (λ o. (o.number == t.1.owner) && (t.1.row.authorization == n)) (λ o. shown (t.1, o) ∷ []) os orders_are (λ _. Unit {0}) (each_all _ os (λ _. tt))
      (λ o _. shown_if listing_query _ _ (filled (number n) t o) (shown (t.1, o)) (passes_as n t o same) refl)
      ∙ tests_first (λ o. shown (t.1, o) ∷ []) (λ o. o.number == t.1.owner) true (t.1.row.authorization == n) os

  -- of all places those that list it
  pub listing_match : (ts : List (ℕ × Owned Listed)) → db 6 ≡ map (hidden listed_cells) ts → EachOf (λ t. IsStoredListed t.1) ts
      → map (output listing_query) (matches db listing_tests listing_from (number n ∷ []))
      ≡ flat_map (λ t. of_place os t.1) (filter (λ t. t.1.row.authorization == n) ts)
  listing_match ts there stored =
      spread listing_query db listing_tests (inner 4 end) (number n ∷ []) (hidden listed_cells) 6 (λ t. t.1.row.authorization == n)
      (λ t. of_place os t.1) ts there (λ t. (t.1.row.authorization == bounded n) ≡ (t.1.row.authorization == n))
      (each _ _ ts (λ t k. same_bounded t.1.row.authorization n k.authorization.1) stored) with_order
