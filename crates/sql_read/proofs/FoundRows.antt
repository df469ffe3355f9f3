-- What a look-up finds is the rows of the model; it fails for memory or the disk alone, and shows rows of its table.
use Rattle.std.proofs.Common.{◌≡◌, ℕ, Bool, true, List, [], ◌∷◌, map, filter, cond, refl, subst, sym, ◌∙◌}
use Rattle.std.proofs.lemmas.Simd.{map-map}
use Rattle.std.specs.List.Sorted.{IsPermutation, IsStrictlySortedBy}
use Rattle.sqlite_value.specs.{Order.Row, declared.keys.Key.Key}
use Rattle.sqlite_sql.specs.{Program.overlay, Query.Join, Query.Output, Query.as_count, Query.has_no_fold, Query.matches, Query.output, Query.output_cmp}
use Rattle.sqlite_sql.specs.Term.{Term, eval}
use Rattle.sqlite.specs.{Effect.Database, Schema.Schema, Store.Ghosts, Held.Held, Held.state, State.Shown}
use Rattle.store_columns.specs.{Flat.flat, Laws.AreToldApart, Limits.AreStored}
use Rattle.store_columns.proofs.RowsApart.{table-apart}
use Rattle.model_laws.proofs.{Basics.each-map, Basics.each_of_map, Keeps.each-filter}
use Rattle.desk_model.specs.{Kept.EachOf, Tables.Tables}
use Rattle.sql_schema.specs.Schema.{desk_schema}
use Rattle.sql_read.specs.{Failures.HasTexts, LookUpFaults.AreTableRows, Looking.Finds}
use Rattle.store_book.specs.IsBook.{IsStoredBook}
use Rattle.sql_read.proofs.Answered.{IsReadingFrom, all_rows, cut, picked_from, shown_by}
use Rattle.sql_read.proofs.TableFacts.{IsReadingOf, RowFacts, TableFacts, all_fit, cells, columns, columns_of, picks}
use Rattle.sql_read.proofs.{Failing.join_fails, KeyedReadings.HasRowsIn, KeyedReadings.shown_cut, Lists.each_limited}

-- ---- rows and their columns

-- the rows that are read of the columns of rows in their limits are these
pub rows_back : {C R : Type 0} (write : R → C) (P : R → Type 0) → AreToldApart write P
    → (columns : List C) (rows found : List R) → EachOf P rows → columns ≡ map write rows → EachOf P found × (columns ≡ map write found) → found ≡ rows
rows_back write P apart columns rows found stored are read = table-apart write P apart found rows read.0 stored (sym read.1 ∙ are)

-- tests that agree on each item
pub filter-each : {X : Type 0} (P : X → Type 0) (p q : X → Bool) → ((x : X) → P x → p x ≡ q x) → (xs : List X) → EachOf P xs → filter p xs ≡ filter q xs
filter-each P p q agree [] h = refl
filter-each P p q agree (x ∷ xs) h =
    λ i. cond (agree x h.0 i) (x ∷ filter-each P p q agree xs h.1 i) (filter-each P p q agree xs h.1 i)

-- ---- look-ups

module _ {X R C : Type 0} (r : RowFacts X R C) where
  -- rows in their limits, whose texts are UTF-8
  abbrev pub AreKept : List X → Type 0
  AreKept xs = EachOf (λ x. r.IsStored (r.bare x)) xs × EachOf (λ x. r.HasText (columns r x)) xs

  -- they are shown as a table's rows
  table_rows : (xs : List X) (rows : List Row) → AreKept xs → rows ≡ map (cells r) xs → AreTableRows r.spelled r.Fits r.write r.IsStored rows
  table_rows xs rows kept are = record {
    fit = all_fit r xs rows (each-map r.HasText (columns r) xs kept.1) are;
    written = map r.bare xs;
    stored = each-map r.IsStored r.bare xs kept.0;
    columns = columns_of r xs rows are ∙ sym (map-map r.write r.bare xs);
  }

  -- the parts that are looked up of them
  abbrev pub FindsIn : {S : Type 0} → Ghosts S → List ℕ × Row → Held S → List R → Type 0
  FindsIn g ask old found = Finds g r.spelled r.Fits r.write r.IsStored ask old found

  module _ {S : Type 0} (g : Ghosts S) {limit : Term} {text : List ℕ} {from : Join} {tests project : List Term} {order : List (Term × Key)} {params : Row}
      (reading : IsReadingFrom desk_schema limit text from tests project order params) (unfolded : has_no_fold from ≡ true)
      (old : Held S) (there : (state g old).now.schema ≡ desk_schema) where
    -- a look-up finds rows that are shown in full; it fails for memory or the disk alone
    pub finds_shown : (xs : List X) → AreKept xs
        → ((new : Held S) (rows : List Row) → Shown text params (state g old) (state g new) rows → rows ≡ map (cells r) xs)
        → FindsIn g (text, params) old (map r.bare xs)
    finds_shown xs kept shows = record {
      shows = λ new shown heads h stored spells.
          table-apart r.write r.IsStored r.apart heads (map r.bare xs) stored (each-map r.IsStored r.bare xs kept.0)
          (sym spells ∙ columns_of r xs shown (shows new shown h) ∙ sym (map-map r.write r.bare xs));
      sure = λ may. record {
        fails = λ new e. join_fails unfolded reading (state g old) (state g new) there e may;
        shows = λ new rows h. table_rows xs rows kept (shows new rows h);
      };
    }

    -- those that match, in a strict order, up to the limit
    pub finds_matched : {outputs : List Output} → map (output (picked_from all_rows from tests project order)) (matches
        (overlay (state g old).now.trees []) tests from (params ∷ [])) ≡ outputs
        → (place : X → Row) (xs : List X) → AreKept xs → IsPermutation outputs (map (λ x. (place x, cells r x)) xs)
        → IsStrictlySortedBy (λ x y. output_cmp (picked_from all_rows from tests project order) (place x, cells r x) (place y, cells r y)) xs
        → FindsIn g (text, params) old (map r.bare (cut limit params xs))
    finds_matched match place xs kept same up =
        let count = as_count (eval limit (params ∷ [])) in
        finds_shown (cut limit params xs) (each_limited _ count xs kept.0, each_limited _ count xs kept.1)
        (λ new rows h. shown_by reading (state g old) (state g new) there match (λ x. (place x, cells r x)) xs same up rows h)

-- over this schema a table has these rows, which are in their limits, and whose texts are UTF-8, as those of all tables are
pub record Keeps {X R C : Type 0} (schema : Schema) (t : TableFacts X R C) (db : Database) (T : Tables) (xs : List X) : Type 0 where
  pub rows : HasRowsIn schema t.layout db xs
  pub stored : AreStored (flat T) → EachOf t.IsStored (map t.bare xs)
  pub texts : HasTexts T → EachOf t.HasText (map (columns t.rows) xs)

-- so each is
pub are_kept : {X R C : Type 0} {schema : Schema} (t : TableFacts X R C) {db : Database} {T : Tables} {xs : List X} → Keeps schema t db T xs → IsStoredBook T
    → AreKept t.rows xs
are_kept t {xs = xs} keeps book =
    (each_of_map t.IsStored t.bare xs (keeps.stored book.stored), each_of_map t.HasText (columns t.rows) xs (keeps.texts book.texts))

-- a look-up finds the rows that pass the model's test, where the tests agree on rows in their limits
pub finds : {X R C : Type 0} (t : TableFacts X R C) {S : Type 0} (g : Ghosts S) {limit : Term} {text : List ℕ} {tests : List Term} {params : Row}
    → IsReadingOf t desk_schema limit text tests params → (test : X → Bool)
    → ((x : X) → t.IsStored (t.bare x) → picks t tests params x ≡ test x) → (old : Held S) (T : Tables) → IsStoredBook T
    → (xs : List X) → Keeps desk_schema t (state g old).now T xs → FindsIn t.rows g (text, params) old (map t.bare (cut limit params (filter test xs)))
finds t g {limit} {text} {tests} {params} reading test agree old T book xs keeps =
    let sql = picks t tests params in
    let count = as_count (eval limit (params ∷ [])) in
    let kept = are_kept t keeps book in
    subst (λ zs. FindsIn t.rows g (text, params) old (map t.bare (cut limit params zs))) (filter-each (λ x. t.IsStored (t.bare x)) sql test agree xs kept.0)
    (finds_shown t.rows g reading refl old keeps.rows.there (cut limit params (filter sql xs))
    (each_limited _ count (filter sql xs) (each-filter _ sql xs kept.0), each_limited _ count (filter sql xs) (each-filter _ sql xs kept.1))
    (λ new rows h. shown_cut t reading (state g old) (state g new) xs rows keeps.rows h))
