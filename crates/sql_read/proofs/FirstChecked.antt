-- Readings of a desk in format 1 one after the other, and the row of it that is read before the rows that it counts are checked.
use Rattle.std.proofs.Common.{◌≡◌, ◌⊎◌, inl, inr, ◌∷◌, [], map, MatchOption, Option, Some, None, Result, Ok, Err, sym, ap, subst, ◌∙◌, arith}
use Rattle.std.proofs.lemmas.Simd.{map-map}
use Rattle.std.specs.Prelude.{IsSome}
use Rattle.sqlite.specs.{Held.Held, Held.state, State.HasCleanDisk, State.IsUnchanged, Store.Ghosts, declared.error.Error.Error}
use Rattle.store_book.specs.{IsBook.IsBookOfStored, IsBook.IsStoredBook, BookRows.AreBookRows}
use Rattle.store_book.proofs.KeyedRows.{books_have_rows}
use Rattle.store_columns.specs.{Columns.meta_columns, Limits.IsStoredMeta, declared.columns.StoredRows.StoredRows}
use Rattle.desk_model.specs.{Kept.EachOf, Tables.Tables, declared.rows.Meta.Meta}
use Rattle.store_columns.proofs.RowsApart.{metas-apart}
use Rattle.sql_read.specs.FirstRows.{HasNoFirstBook, HasNoFirstMeta, HasNoRowsWith, IsFirstMeta, IsFirstReadable}
use Rattle.sql_read.specs.{AllTables.FailsAtFirst, Failures.IsOutOfMemory, Only.ShowsOnlyFirstMetas, Spelled.meta_in, declared.formats.Format.TheVariants.First}
use Rattle.sql_read.specs.{Reads.Reads, Failures.IsMet, Failures.MayRead, First.AreFirstShown, First.ShowsFirstMeta, First.raised_meta, Only.ShowsOnlyRows}
use Rattle.sql_read.proofs.Results.{either_then, fails_then, read_then, unchanged_after}
use Rattle.sql_read.proofs.{BookChecks.first_still, BookOfShown.first_book_shown, Failing.may_read_still, HeldBooks.held_first_only, MetFaults.met_behind}
use Rattle.sql_schema.specs.{Failing.IsFailure, Stays.Asks}
use Rattle.sql_schema.proofs.StaysLemmas.{asks_then}
use Rattle.sql_tables.specs.Holds.{HoldsFirst}

-- a reading failed, at a table or for memory
abbrev pub FailsAtRows : {S : Type 0} → Ghosts S → Held S → Error → Type 0
FailsAtRows g conn e = IsOutOfMemory e ⊎ FailsAtFirst g conn e

module _ {S A : Type 0} (g : Ghosts S) {old new : Held S} {P : A → Type 0} {Readable : Type 0} {Fails : Error → Type 0} where
  -- readings were answered
  pub reads_ok : {a : A} → (HasCleanDisk (state g new) → P a) → (HasCleanDisk (state g new) → IsUnchanged (state g old) (state g new))
      → Asks (state g old) (state g new) → Reads g old new P Readable Fails (Ok a)
  reads_ok shown same asks = record {
    shown = shown;
    fails = λ clean may is. tt;
    refused = λ clean. tt;
    met = λ clean. tt;
    unchanged = same;
    asks = asks;
  }

  -- one failed
  pub reads_err : {e : Error} → (HasCleanDisk (state g new) → MayRead (state g old) → Readable → IsFailure e) → (HasCleanDisk (state g new) → Fails e)
      → (HasCleanDisk (state g new) → IsMet (state g old) (state g new) e) → Asks (state g old) (state g new)
      → Reads g old new P Readable Fails (Err e)
  reads_err fails refused met asks = record {
    shown = λ clean. tt;
    fails = fails;
    refused = refused;
    met = met;
    unchanged = λ clean. tt;
    asks = asks;
  }

module _ {S A : Type 0} (g : Ghosts S) where
  -- a table was read, and then the others
  pub tables_then : {N M : Type 0} (P Q : A → Type 0) (old mid new : Held S) (r : Result (Option A) Error)
      → (HasCleanDisk (state g mid) → (a : A) → Q a → P a) → (HasCleanDisk (state g mid) → M → N)
      → (HasCleanDisk (state g mid) → IsUnchanged (state g old) (state g mid)) → Asks (state g old) (state g mid)
      → Reads g mid new (λ found. MatchOption found M Q) (IsFirstReadable g mid) (FailsAtRows g mid) r
      → Reads g old new (λ found. MatchOption found N P) (IsFirstReadable g old) (FailsAtRows g old) r
  tables_then P Q old mid new r so none same asks rest = record {
    shown = λ clean. read_then r (rest.shown clean) (λ found is. either_then found is (none (honest clean)) (so (honest clean)));
    fails = λ clean may is. let still = same (honest clean) in
        rest.fails clean (may_read_still (state g old) (state g mid) still asks may)
        (record { tables = is.tables; holds = subst (λ db. HoldsFirst db is.tables) (sym still.0.now_is) is.holds; texts = is.texts });
    refused = λ clean. fails_then r (rest.refused clean) (λ e fails. elim fails [
      | inl memory ↦ inl memory
      | inr at ↦ inr (first_still g old mid e (same (honest clean)).0.now_is at)
    ]);
    met = λ clean. fails_then r (rest.met clean) (λ e is. met_behind (state g old) (state g mid) (state g new) e asks is);
    unchanged = λ clean. unchanged_after r (state g old) (state g mid) (state g new) (same (honest clean)) (λ _. rest.unchanged clean);
    asks = asks_then (state g old) (state g mid) (state g new) asks rest.asks;
  }
    where
      honest : HasCleanDisk (state g new) → HasCleanDisk (state g mid)
      honest clean = omega (arith, clean, rest.asks.survives.clean)

-- ---- what the row tells

module _ {S : Type 0} (g : Ghosts S) where
  -- there is a book of what was shown
  pub has_first_book : (N : Type 0) (conn : Held S) (found : Option Meta) → MatchOption found N (IsFirstMeta g conn) → IsSome found
      → (stored : StoredRows) × AreFirstShown g conn stored × (T : Tables) × IsBookOfStored stored T
  has_first_book N conn None is some = absurd (let never = some in cc)
  has_first_book N conn (Some row) is some = first_book_shown g conn row is.shown is.shows

  -- the row that was shown is the one that is shown alone
  row_same : (conn : Held S) (row other : Meta) → ShowsFirstMeta g conn row → IsStoredMeta other → ShowsOnlyFirstMetas g (state g conn).now (other ∷ [])
      → row ≡ other
  row_same conn row other shown stored only =
      let it = shown.shown in
      let same : map meta_columns (row ∷ []) ≡ map meta_columns (other ∷ []) =
      sym shown.raised ∙ ap (map raised_meta) it.columns ∙ map-map raised_meta meta_in it.rows
      ∙ only.whole it.before it.after it.rows it.same it.shown in
      metas-apart row other shown.stored stored (let both = same in cc)

  -- no row of a desk is shown alone, or no rows with the one that was shown
  pub no_meta : (conn : Held S) → HasNoFirstMeta g conn → HasNoFirstBook g conn
  no_meta conn none T only =
      let alone = (books_have_rows only.rows T only.book only.by_key).metas in
      none T.meta (subst (EachOf IsStoredMeta) alone only.stored.metas).0 (subst (ShowsOnlyFirstMetas g (state g conn).now) alone only.metas)

  -- where the row has no rows of a book with it, there is no book of format 1
  pub no_rows : (conn mid : Held S) (row : Meta) → (state g mid).now ≡ (state g conn).now → ShowsFirstMeta g conn row → HasNoRowsWith g mid row
      → HasNoFirstBook g conn
  no_rows conn mid row still shown none T only =
      let are = books_have_rows only.rows T only.book only.by_key in
      let alone = are.metas in
      let same = row_same conn row T.meta shown (subst (EachOf IsStoredMeta) alone only.stored.metas).0
      (subst (ShowsOnlyFirstMetas g (state g conn).now) alone only.metas) in
      none only.rows (record {
        stored = only.stored;
        by_key = only.by_key;
        are = subst (λ m. AreBookRows m only.rows) (sym same) are;
        only = subst (λ db. ShowsOnlyRows g db First only.rows) (sym still) only.only;
      })

  -- of a desk it is the desk's
  pub meta_is : (conn : Held S) (T : Tables) → HoldsFirst (state g conn).now T → IsStoredBook T → (found : Option Meta)
      → MatchOption found (HasNoFirstBook g conn) (IsFirstMeta g conn) → found ≡ Some T.meta
  meta_is conn T has book None is = absurd (is T (held_first_only g conn T book has))
  meta_is conn T has book (Some row) is =
      let only = held_first_only g conn T book has in
      let alone = (books_have_rows only.rows T only.book only.by_key).metas in
      ap Some (row_same conn row T.meta is.shown book.stored.metas.0 (subst (ShowsOnlyFirstMetas g (state g conn).now) alone only.metas))
