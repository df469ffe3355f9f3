-- What a reading shows of a table that has a number as its key.
use Rattle.std.proofs.Common.{◌≡◌, ℕ, List, [], ◌∷◌, map, filter, refl, ap, ◌∙◌}
use Rattle.std.proofs.lemmas.List.{Sorted.IsPermutation-refl, map-id}
use Rattle.sqlite.specs.{Effect.Database, Schema.Schema, State.State, State.Shown}
use Rattle.sqlite_value.specs.Order.{Row}
use Rattle.sqlite_sql.specs.Term.{Term}
use Rattle.model_laws.proofs.RowLists.{ascends_filter}
use Rattle.sql_tables.specs.Layouts.{IsRising, Layout}
use Rattle.sql_read.proofs.Answered.{all_rows, beside, by, cut, matched, shown_by, strictly}
use Rattle.sql_read.proofs.{Lists.filter-all, TableFacts.IsReadingOf, TableFacts.TableFacts, TableFacts.cells, TableFacts.picks}

-- the database has this schema, and the table these rows, in the order of their keys
pub record HasRowsIn (schema : Schema) {X : Type 0} (L : Layout X) (db : Database) (xs : List X) : Type 0 where
  pub there : db.schema ≡ schema
  pub rows_are : db.trees L.table.tree ≡ map L.image xs
  pub rising : IsRising L.key xs

module _ {X R C : Type 0} (t : TableFacts X R C) {schema : Schema} where
  -- a cut from the rows that pass the tests is shown, in the order of their keys
  pub shown_cut : {limit : Term} {text : List ℕ} {tests : List Term} {params : Row} → IsReadingOf t schema limit text tests params
      → (old new : State) (xs : List X) (rows : List Row) → HasRowsIn schema t.layout old.now xs → Shown text params old new rows
      → rows ≡ map (cells t.rows) (cut limit params (filter (picks t tests params) xs))
  shown_cut {tests = tests} {params = params} reading old new xs rows has h =
      let test = picks t tests params in
      let numbered = beside t.layout.key (cells t.rows) in
      shown_by reading old new has.there
      (matched t.layout.image (λ (x : X). x) t.layout.table.tree tests t.project (by 0 ∷ []) params test numbered (λ _. refl)
      (λ x i. (t.key x i ∷ [], t.shows params x i)) t.low old.now.trees xs has.rows_are
      ∙ ap (λ ys. map numbered (filter test ys)) (map-id xs))
      numbered (filter test xs) (IsPermutation-refl _)
      (strictly t.layout.key (cells t.rows) 0 (filter test xs) (ascends_filter t.layout.key test 0 xs has.rising)) rows h

  -- of a whole table, all rows
  pub shown_whole : {text : List ℕ} → IsReadingOf t schema all_rows text [] [] → (old new : State) (xs : List X) (rows : List Row)
      → HasRowsIn schema t.layout old.now xs → Shown text [] old new rows → rows ≡ map (cells t.rows) xs
  shown_whole reading old new xs rows has h = shown_cut reading old new xs rows has h ∙ ap (map (cells t.rows)) (filter-all xs)
