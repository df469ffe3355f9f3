-- What the readings of whole tables give in either format; they fail for memory or the disk alone.
use Rattle.std.proofs.Common.{◌≡◌, ℕ, ◌∷◌, ◌++◌, [], List, map, true, refl, sym, ap, subst, ◌∙◌, arith}
use Rattle.std.proofs.lemmas.List.Sorted.{All-permutation, IsPermutation-map, IsPermutation-sym, IsPermutation-trans}
use Rattle.std.proofs.{lemmas.List.map-id, lemmas.Simd.map-map}
use Rattle.std.specs.List.Sorted.{IsPermutation}
use Rattle.sqlite.specs.{Held.Held, Held.state, Given.HasGiven, Schema.Schema, State.Shown, Store.Ghosts}
use Rattle.sqlite.proofs.Callers.{begins_shown, given_begin}
use Rattle.sqlite_value.specs.{Order.Row, declared.keys.Key.Key}
use Rattle.sqlite_sql.specs.{Program.overlay, Query.matches, Query.output, Term.Term}
use Rattle.store_columns.specs.{Columns.listed_columns, Flat.challenge_rows, Flat.key_rows, Flat.listed_rows}
use Rattle.model_laws.proofs.Basics.{each_all, each_of_map}
use Rattle.desk_model.specs.{Kept.EachOf, Tables.Tables}
use Rattle.sql_tables.specs.Layouts.{IsRising, challenge_layout, key_layout, order_layout}
use Rattle.sql_tables.specs.{Hidden.hidden, Hidden.row_of, Holds.Holds, Holds.HoldsListed, Images.listed_cells, Sorted.sorted_by}
use Rattle.store_book.specs.IsBook.{IsBook}
use Rattle.sql_read.specs.{BookShown.HoldsIn, Shown.IsShown, Checking.AreFirst, Checking.ShowsOnly, Failures.HasTexts, Failures.IsReadable, Spelled.FitsListed}
use Rattle.sql_read.specs.{Spelled.listed_in, declared.formats.Format.Format, declared.formats.Format.TheVariants.First}
use Rattle.sql_read.specs.{declared.formats.Format.TheVariants.Second}
use Rattle.sql_read.proofs.Answered.{IsReading, all_rows, answers_from, by, compiled_alone, matched, one, picked, shown_by, shown_somehow}
use Rattle.sql_read.proofs.KeptRows.{accounts_kept, authorizations_kept, challenges_kept, format_kept, keys_kept, nonces_kept, number_of, orders_kept}
use Rattle.sql_read.proofs.KeptRows.{schema_of}
use Rattle.sql_read.proofs.Readings.{accounts_reading, authorizations_reading, challenges_reading, keys_reading, listed_reading, meta_reading, nonces_reading}
use Rattle.sql_read.proofs.Readings.{orders_reading}
use Rattle.sql_read.proofs.TableFacts.{IsReadingOf, RowFacts, TableFacts, account_facts, all_fit, authorization_facts, cells, challenge_facts, columns}
use Rattle.sql_read.proofs.TableFacts.{columns_of, formatted_facts, key_facts, listed_facts, nonce_facts, order_facts}
use Rattle.sql_read.proofs.{ListedOrder.listed_strictly, ListedOrder.placed, Failing.reading_fails, FoundRows.Keeps, KeyedReadings.HasRowsIn}
use Rattle.sql_read.proofs.{KeyedReadings.shown_whole, Lists.filter-all, TableColumns.listed_project}
use Rattle.sql_schema.specs.declared.accounts.TheConstants as account
use Rattle.sql_schema.specs.declared.authorizations.TheConstants as authz
use Rattle.sql_schema.specs.declared.challenges.TheConstants as chall
use Rattle.sql_schema.specs.declared.keys.TheConstants as chall_key
use Rattle.sql_schema.specs.declared.meta.TheConstants as meta
use Rattle.sql_schema.specs.declared.nonces.TheConstants as nonce
use Rattle.sql_schema.specs.declared.orders.TheConstants as ord
use Rattle.sql_schema.specs.declared.listed.TheConstants as ord_authz

-- ---- rows that come one after the other

-- those that a query of one table has given are the first of an answer
given_front : {S : Type 0} (g : Ghosts S) (text : List ℕ) {schema : Schema} {tree : ℕ} {project : List Term} {order : List (Term × Key)}
    → IsReading schema all_rows text tree [] project order [] → (conn : Held S) (given : List Row) → (state g conn).now.schema ≡ schema
    → HasGiven g text [] conn given → (tail : List Row) × Shown text [] (state g conn) (state g conn) (given ++ tail)
unfolding HasGiven
given_front g text reading conn given there gives = grind (arith, compiled_alone, begins_shown, (given_begin g text [] conn given gives))

-- and so the first of a table's rows
first_rows : {X R C : Type 0} (r : RowFacts X R C) (given tail : List Row) (xs : List X) → given ++ tail ≡ map (cells r) xs
    → EachOf (λ x. r.HasText (columns r x)) xs → AreFirst r.spelled r.write r.Fits given (map r.bare xs)
first_rows r [] tail xs same texts = tt
first_rows r (row ∷ given) tail [] same texts = absurd (cc same)
first_rows r (row ∷ given) tail (x ∷ xs) same texts =
    let one : row ≡ cells r x = cc same in
    let others : given ++ tail ≡ map (cells r) xs = cc same in (
      ap r.spelled one ∙ r.back (columns r x),
      subst r.Fits (sym one) (r.fits (columns r x) texts.0),
      first_rows r given tail xs others texts.1,
    )

-- ---- a table by number

-- over the database of this connection a reading of a whole table shows these rows alone, and fails for memory or the disk alone
pub record IsWhole {S X R C : Type 0} (g : Ghosts S) (t : TableFacts X R C) (text : List ℕ) (here : Held S) (T : Tables) (xs : List X) : Type 0 where
  pub columns_are : (all : List C) → IsShown g text t.spelled here all → all ≡ map (columns t.rows) xs
  pub readable : HasTexts T → IsReadable g here text t.Fits
  pub only : HasTexts T → ShowsOnly g text t.spelled t.write t.Fits (state g here).now (map t.bare xs)

-- a reading of a table that has these rows does
pub whole : {S X R C : Type 0} (g : Ghosts S) (t : TableFacts X R C) {text : List ℕ} (here : Held S) (T : Tables) {xs : List X} {schema : Schema}
    → IsReadingOf t schema all_rows text [] [] → Keeps schema t (state g here).now T xs → IsWhole g t text here T xs
whole {S} {X} {R} {C} g t {text} here T {xs} {schema} reading keeps =
    let moved : (before : Held S) → (state g before).now ≡ (state g here).now → HasRowsIn schema t.layout (state g before).now xs =
    λ before same. subst (λ db. HasRowsIn schema t.layout db xs) (sym same) keeps.rows in
    let shown : (before after : Held S) (rows : List Row) → (state g before).now ≡ (state g here).now → Shown text [] (state g before) (state g after) rows
    → rows ≡ map (cells t.rows) xs =
    λ before after rows same h. shown_whole t reading (state g before) (state g after) xs rows (moved before same) h in
    record {
      columns_are = λ all it. it.columns ∙ columns_of t.rows xs it.rows (shown it.before it.after it.rows it.same it.shown);
      readable = λ texts before after e same may.
          reading_fails reading (state g before) (state g after) (moved before same).there e t.Fits may
          (λ rows h. all_fit t.rows xs rows (keeps.texts texts) (shown before after rows same h));
      only = λ texts. record {
        first = λ conn given same gives.
            let it = given_front g text reading conn given (moved conn same).there gives in
            first_rows t.rows given it.0 xs (shown conn conn (given ++ it.0) same it.1) (each_of_map t.HasText (columns t.rows) xs (keeps.texts texts));
        whole = λ old new given same h. columns_of t.rows xs given (shown old new given same h) ∙ sym (map-map t.write t.bare xs);
      };
    }

module _ {S : Type 0} (g : Ghosts S) (here : Held S) (T : Tables) (format : Format) (has : HoldsIn format (state g here).now T) where
  -- `meta`
  pub meta_whole : IsWhole g formatted_facts meta.SELECT.now here T ((number_of format, T.meta) ∷ [])
  meta_whole = whole g formatted_facts here T (meta_reading format) (format_kept _ T format has)

  -- `nonce`
  pub nonces_whole : IsWhole g nonce_facts nonce.SELECT.now here T T.nonces
  nonces_whole = whole g nonce_facts here T (nonces_reading format) (nonces_kept _ T format has)

  -- `account`
  pub accounts_whole : IsWhole g account_facts account.SELECT.now here T T.accounts
  accounts_whole = whole g account_facts here T (accounts_reading format) (accounts_kept _ T format has)

  -- `ord`
  pub orders_whole : IsWhole g order_facts ord.SELECT.now here T T.orders
  orders_whole = whole g order_facts here T (orders_reading format) (orders_kept _ T format has)

  -- `authz`
  pub authorizations_whole : IsWhole g authorization_facts authz.SELECT.now here T T.authorizations
  authorizations_whole = whole g authorization_facts here T (authorizations_reading format) (authorizations_kept _ T format has)

  -- `chall`
  pub challenges_whole : IsWhole g challenge_facts chall.SELECT.now here T (sorted_by challenge_layout.key (challenge_rows T.authorizations))
  challenges_whole = whole g challenge_facts here T (challenges_reading format) (challenges_kept _ T format has)

-- `chall_key`
pub keys_whole : {S : Type 0} (g : Ghosts S) (here : Held S) (T : Tables) → Holds (state g here).now T
    → IsWhole g key_facts chall_key.SELECT.now here T (sorted_by key_layout.key (key_rows (challenge_rows T.authorizations)))
keys_whole g here T has = whole g key_facts here T keys_reading (keys_kept _ T has)

-- ---- what orders list

module _ {S : Type 0} (g : Ghosts S) (here : Held S) (T : Tables) (format : Format) (has : HoldsIn format (state g here).now T) where
  -- the table has it, in any order
  listed_in_format : (f : Format) (before : Held S) → HoldsIn f (state g before).now T
      → ((state g before).now.schema ≡ schema_of f) × HoldsListed ((state g before).now.trees 6) (listed_rows T.orders)
  listed_in_format First before has = (has.schema, has.listed)
  listed_in_format Second before has = (has.schema, has.listed)

  -- and wherever the database is as it is here
  listed_at : (before : Held S) → (state g before).now ≡ (state g here).now
      → ((state g before).now.schema ≡ schema_of format) × HoldsListed ((state g before).now.trees 6) (listed_rows T.orders)
  listed_at before same = listed_in_format format before (subst (λ db. HoldsIn format db T) (sym same) has)

  -- so it matches its reading
  listed_match : (before : Held S) → (same : (state g before).now ≡ (state g here).now)
      → map (output (picked 6 [] listed_project (by 1 ∷ by 2 ∷ []))) (matches (overlay (state g before).now.trees []) [] (one 6) ([] ∷ []))
      ≡ map placed (map row_of (listed_at before same).1.numbered)
  listed_match before same =
      let held = (listed_at before same).1 in
      matched (hidden listed_cells) row_of 6 [] listed_project (by 1 ∷ by 2 ∷ []) [] (λ _. true) placed (λ _. refl) (λ _. refl) (λ _. refl)
      (state g before).now.trees held.numbered held.has
      ∙ ap (map placed) (filter-all (map row_of held.numbered))

  -- it is shown in some order
  listed_cells_shown : (before after : Held S) (rows : List Row) → (state g before).now ≡ (state g here).now
      → Shown ord_authz.SELECT.now [] (state g before) (state g after) rows → IsPermutation (map listed_cells (listed_rows T.orders)) rows
  listed_cells_shown before after rows same h =
      let there = listed_at before same in
      let ts = there.1.numbered in
      let ls = listed_rows T.orders in
      let it = answers_from (listed_reading format) (state g before) (state g after) there.0 (listed_match before same) rows h in
      subst (IsPermutation (map listed_cells ls)) (sym it.2)
      (IsPermutation-trans (map listed_cells ls) (map listed_cells (map row_of ts)) it.0
      (IsPermutation-map listed_cells ls (map row_of ts) (IsPermutation-sym (map row_of ts) ls there.1.same))
      (shown_somehow (picked 6 [] listed_project (by 1 ∷ by 2 ∷ [])) placed (map row_of ts) it.0 it.1))

  -- its reading fails for memory or the disk alone
  pub listed_readable : IsReadable g here ord_authz.SELECT.now FitsListed
  listed_readable before after e same may =
      reading_fails (listed_reading format) (state g before) (state g after) (listed_at before same).0 e FitsListed may (λ rows h.
      let ls = listed_rows T.orders in
      All-permutation FitsListed (map listed_cells ls) rows (listed_cells_shown before after rows same h)
      (all_fit listed_facts ls (map listed_cells ls) (each_all (λ _. Unit {0}) (map listed_columns ls) (λ _. tt)) refl))

module _ {S : Type 0} (g : Ghosts S) (here : Held S) (T : Tables) (format : Format) (has : HoldsIn format (state g here).now T) (book : IsBook T) where
  -- the numbers of the orders rise
  numbers_rise : (f : Format) (before : Held S) → HoldsIn f (state g before).now T → IsRising order_layout.key T.orders
  numbers_rise First before has = has.rising.orders
  numbers_rise Second before has = has.rising.orders

  -- what orders list is shown by order, then by place
  listed_in_turn : (before after : Held S) (rows : List Row) → (state g before).now ≡ (state g here).now
      → Shown ord_authz.SELECT.now [] (state g before) (state g after) rows → rows ≡ map listed_cells (listed_rows T.orders)
  listed_in_turn before after rows same h =
      let there = listed_at g here T format has before same in
      shown_by (listed_reading format) (state g before) (state g after) there.0 (listed_match g here T format has before same) placed (listed_rows T.orders)
      (IsPermutation-map placed _ _ there.1.same) (listed_strictly 0 T.orders (numbers_rise format here has) book.in_order.places) rows h

  -- and alone
  pub listed_only : ShowsOnly g ord_authz.SELECT.now listed_in listed_columns FitsListed (state g here).now (listed_rows T.orders)
  listed_only =
      let ls = listed_rows T.orders in
      record {
        first = λ conn given same gives.
            let it = given_front g ord_authz.SELECT.now (listed_reading format) conn given (listed_at g here T format has conn same).0 gives in
            subst (AreFirst listed_in listed_columns FitsListed given) (map-id ls)
            (first_rows listed_facts given it.0 ls (listed_in_turn conn conn (given ++ it.0) same it.1) (each_all (λ _. Unit {0}) ls (λ _. tt)));
        whole = λ old new given same h. columns_of listed_facts ls given (listed_in_turn old new given same h);
      }
