-- The row of the desk in format 1, with rows that were checked.
use Rattle.std.specs.Prelude.{◌≡◌, [], ◌∷◌}
use Rattle.sqlite.specs.{Held.Held, Held.state, Store.Ghosts}
use Rattle.desk_model.specs.{Tables.Tables, declared.rows.Meta.Meta}
use Rattle.store_columns.specs.{Limits.IsStoredMeta, declared.columns.FlatRows.FlatRows}
use Rattle.sql_read.specs.Only.{ShowsBookRowsOnly, ShowsOnlyFirstBook, ShowsOnlyFirstMetas}
use Rattle.sql_read.specs.{BookShown.ShowsNonces, Failures.HasTexts, First.ShowsFirstMeta, declared.formats.Format.TheVariants.First}
use Rattle.sql_tables.specs.Holds.{HoldsFirst}

module _ {S : Type 0} (g : Ghosts S) (conn : Held S) where
  -- no book's rows in format 1 are all that the database shows
  abbrev pub HasNoFirstBook : Type 0
  HasNoFirstBook = (T : Tables) → ShowsOnlyFirstBook g (state g conn).now T → ⊥

  -- no row of a desk is all that it shows in `meta`
  abbrev pub HasNoFirstMeta : Type 0
  HasNoFirstMeta = (row : Meta) → IsStoredMeta row → ShowsOnlyFirstMetas g (state g conn).now (row ∷ []) → ⊥

  -- no rows of a book with this row are all that it shows in the other tables
  abbrev pub HasNoRowsWith : Meta → Type 0
  HasNoRowsWith meta = (rows : FlatRows) → ShowsBookRowsOnly g (state g conn).now First meta rows → ⊥

  -- the database holds tables in format 1, whose texts are UTF-8
  pub record IsFirstReadable : Type 0 where
    pub tables : Tables
    pub holds : HoldsFirst (state g conn).now tables
    pub texts : HasTexts tables

  -- the row is this one, and the database showed what its counters count
  pub record IsWithRows (meta row : Meta) : Type 0 where
    pub same : row ≡ meta
    pub shows : ShowsNonces g (state g conn).now First row.counters

  -- the database showed this row, and what its counters count
  pub record IsFirstMeta (row : Meta) : Type 0 where
    pub shown : ShowsFirstMeta g conn row
    pub shows : ShowsNonces g (state g conn).now First row.counters
