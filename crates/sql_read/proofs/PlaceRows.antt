-- What the join of places shows: what each order that waits lists, beside the authorization that stands there.
use Rattle.std.proofs.Common.{◌≡◌, ◌&&◌, ℕ, pos, Bool, true, cond, List, [], ◌∷◌, map, filter, flat_map, refl, subst, sym, ap, ◌∙◌, rules}
use Rattle.std.specs.{Prelude.◌==◌, List.list_all, List.Sorted.IsPermutation}
use Rattle.sqlite.specs.declared.types.Value.TheVariants.{Int}
use Rattle.sqlite_value.specs.Order.{Row}
use Rattle.sqlite_trees.specs.Tree.{Trees}
use Rattle.sqlite_trees.proofs.ListLemmas.{IsPermutation-flat_map_each}
use Rattle.sqlite_sql.specs.{Query.Output, Query.Query, Query.end, Query.inner, Query.matches, Query.output, Term.Env, Term.holds}
use Rattle.store_columns.specs.{Flat.listed_rows, Flat.owned_by, Flat.without_challenges, TextColumns.HasTextAuthorization, declared.columns.Owned.Owned}
use Rattle.model_laws.proofs.Basics.{each, each_all}
use Rattle.desk_model.specs.{Document.order_status_text, Kept.EachOf, Order.is_processing}
use Rattle.desk_model.specs.declared.rows.{AuthorizationRow.AuthorizationRow, Listed.Listed, OrderRow.OrderRow}
use Rattle.desk_model.specs.declared.status.OrderStatus.TheVariants as order
use Rattle.sql_tables.specs.{Hidden.hidden, Hidden.row_of, Images.authorization_image, Images.listed_cells, Images.order_image}
use Rattle.sql_read.specs.Spelled.{FitsPlace, place_in}
use Rattle.sql_read.proofs.PlaceParts.{IsStoredPlace, Place, PlaceColumns, place-apart, place_back, place_columns, place_fits, place_from}
use Rattle.sql_read.proofs.PlaceParts.{place_order, place_params, place_project, place_tests}
use Rattle.sql_read.proofs.{Answered.all_rows, Answered.picked_from, Beside.map-pairs, Beside.pairs, Beside.told_by, Lists.each_same, Lists.in_turn}
use Rattle.sql_read.proofs.{Lists.part_moved, LookUpReadings.text, SideBySide.shown_if, SideBySide.spread, SideBySide.tests_first, TableFacts.RowFacts}
use Rattle.sql_read.proofs.{TableFacts.cells, TableFacts.facts_of, Tests.number_text_test}

-- ---- rows side by side

-- an order that waits
abbrev pub waits : OrderRow → Bool
waits o = is_processing o.status

-- the number of the authorization at a place
abbrev pub authorization_at : Owned Listed → ℕ
authorization_at l = l.row.authorization

-- a place with the authorization as its table has it
abbrev pub bare_place : Place → Place
bare_place x = (x.0, without_challenges x.1)

-- what is asked for
abbrev pub asked : Row
asked = text (order_status_text order.Processing)

-- the rows of an order, of a place under its hidden number, and of an authorization
abbrev filled : OrderRow → ℕ × Owned Listed → AuthorizationRow → Env
filled o t a = asked ∷ order_image o ∷ hidden listed_cells t ∷ authorization_image a ∷ []

-- the statement
abbrev pub place_query : Query
place_query = picked_from all_rows place_from place_tests place_project place_order

-- what is known of a place
abbrev pub place_facts : RowFacts Place Place PlaceColumns
place_facts =
    facts_of bare_place place_columns place_in place_params place_back IsStoredPlace place-apart (λ c. HasTextAuthorization c.1) FitsPlace
    place_fits

-- a place beside what it is ordered by
abbrev pub shown : Place → Output
shown x = (Int (pos x.0.owner) ∷ Int (pos x.0.row.place) ∷ [], cells place_facts x)

-- SQL's tests of the three are the model's
passes_as : (o : OrderRow) (t : ℕ × Owned Listed) (a : AuthorizationRow)
    → list_all (holds (filled o t a)) place_tests ≡ ((t.1.owner == o.number) && ((a.number == authorization_at t.1) && waits o))
passes_as o t a = search (rules, number_text_test)

-- ---- what the join shows

module _ (rows : List AuthorizationRow) where
  -- a place beside each authorization of its number
  abbrev of_place : Owned Listed → List Output
  of_place l = flat_map (λ a. shown (l, a) ∷ []) (told_by authorization_at (λ a. a.number) rows l)

  module _ (ts : List (ℕ × Owned Listed)) where
    -- the places of each order
    abbrev of_orders : List OrderRow → List Output
    of_orders os = flat_map (λ o. flat_map (λ t. of_place t.1) (filter (λ t. t.1.owner == o.number) ts)) os

    -- in their order they are all places beside their authorizations
    pub gathered : (all : List (Owned Listed)) → IsPermutation (map row_of ts) all → (os : List OrderRow)
        → EachOf (λ o. filter (λ l. l.owner == o.number) all ≡ owned_by o.number o.listed) os
        → IsPermutation (of_orders os) (map shown (pairs authorization_at (λ a. a.number) rows (listed_rows os)))
    gathered all same os own =
        subst (IsPermutation (of_orders os))
        (each_same _ _ os (each _ _ os (λ o is. ap (flat_map of_place) is) own)
        ∙ sym (in_turn of_place (λ (o : OrderRow). owned_by o.number o.listed) os)
        ∙ map-pairs authorization_at (λ a. a.number) rows shown (listed_rows os))
        (IsPermutation-flat_map_each _ _ (λ o. part_moved of_place (λ l. l.owner == o.number) row_of ts all same) os)

    module _ (db : Trees) (rows_are : db 5 ≡ map authorization_image rows) (places_are : db 6 ≡ map (hidden listed_cells) ts) where
      -- of a place
      at_place : (o : OrderRow) (t : ℕ × Owned Listed)
          → map (output place_query) (matches db place_tests (inner 5 end) (asked ∷ order_image o ∷ hidden listed_cells t ∷ []))
          ≡ cond ((t.1.owner == o.number) && waits o) (of_place t.1) []
      at_place o t =
          spread place_query db place_tests end (asked ∷ order_image o ∷ hidden listed_cells t ∷ []) authorization_image 5
          (λ a. (t.1.owner == o.number) && ((a.number == authorization_at t.1) && waits o)) (λ a. shown (t.1, a) ∷ []) rows rows_are
          (λ _. Unit {0}) (each_all _ rows (λ _. tt)) (λ a _. shown_if place_query _ _ (filled o t a) (shown (t.1, a)) (passes_as o t a) refl)
          ∙ tests_first (λ a. shown (t.1, a) ∷ []) (λ a. a.number == authorization_at t.1) (t.1.owner == o.number) (waits o) rows

      -- of an order
      at_order : (o : OrderRow)
          → map (output place_query) (matches db place_tests (inner 6 (inner 5 end)) (asked ∷ order_image o ∷ []))
          ≡ cond (waits o) (flat_map (λ t. of_place t.1) (filter (λ t. t.1.owner == o.number) ts)) []
      at_order o =
          spread place_query db place_tests (inner 5 end) (asked ∷ order_image o ∷ []) (hidden listed_cells) 6 (λ t. (t.1.owner == o.number) && waits o)
          (λ t. of_place t.1) ts places_are (λ _. Unit {0}) (each_all _ ts (λ _. tt)) (λ t _. at_place o t)
          ∙ tests_first (λ t. of_place t.1) (λ t. t.1.owner == o.number) true (waits o) ts

      -- of all orders those that wait
      pub place_match : (os : List OrderRow) → db 4 ≡ map order_image os
          → map (output place_query) (matches db place_tests place_from (asked ∷ [])) ≡ of_orders (filter waits os)
      place_match os orders_are =
          spread place_query db place_tests (inner 6 (inner 5 end)) (asked ∷ []) order_image 4 waits
          (λ o. flat_map (λ t. of_place t.1) (filter (λ t. t.1.owner == o.number) ts)) os orders_are (λ _. Unit {0}) (each_all _ os (λ _. tt))
          (λ o _. at_order o)
