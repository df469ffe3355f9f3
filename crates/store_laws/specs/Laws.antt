-- What the tables of a history are to a file that keeps them.
use Rattle.std.specs.Prelude.{ℕ, ◌≤◌, List, ◌∷◌}
use Rattle.store_columns.specs.{Columns.rows_columns, Limits.AreStored, TextColumns.ColumnsAreTexts, Flat.flat, declared.columns.StoredRows.StoredRows}
use Rattle.desk_model.specs.{Change.recorded_changes, Entry.History, Limits.last_moment, History.clock, History.record_all, Kept.EachOf, Kept.Kept}
use Rattle.desk_model.specs.{Kept.restricted, Legal.EachFollows, Legal.Legal, Tables.Tables, Tables.picture, Tables.tables_at, declared.entry.Entry.Entry}
use Rattle.store_laws.specs.{InLimits.AreInLimits, InLimits.IsPutInLimits, Told.AreReorderedColumns, Told.IsOnlyBookOf}
use Rattle.store_book.specs.IsBook.{IsBook, IsStoredBook}

-- the tables of a legal history are a book in the limits of its columns, which tell it
pub record PicturesAreBooks : Type 0 where
  -- the tables of a history are a book, at each moment
  pub book : (F : History) → EachFollows F → (t : ℕ) → IsBook (tables_at F t)
  -- their rows are in the limits of their columns, at each moment that a clock may show
  pub limits : (F : History) → Legal F → (t : ℕ) → t ≤ last_moment → AreInLimits (tables_at F t)
  -- so are those of any part of such tables
  pub parts : (k : Kept) (T : Tables) → AreInLimits T → AreInLimits (restricted k T)
  -- rows in their limits are so table by table, as a file has them
  pub rows : (T : Tables) → AreInLimits T → AreStored (flat T)
  -- what a call records puts rows in their limits alone, where the longer history is legal
  pub records :
      (F : History) (e : Entry) (es : List Entry) (m : ℕ) → clock F ≤ m → Legal F → Legal (record_all m (e ∷ es) F) →
      EachOf IsPutInLimits (recorded_changes m (picture F) (e ∷ es))
  -- each TEXT column of a desk's rows is UTF-8, at each moment
  pub texts : (F : History) → EachFollows F → (t : ℕ) → ColumnsAreTexts (rows_columns (flat (tables_at F t)))
  -- the columns of a book's rows, in any order, tell the book, where the rows are in their limits
  pub told : (T : Tables) → IsBook T → AreStored (flat T) → (stored : StoredRows) → AreReorderedColumns stored (rows_columns (flat T)) → IsOnlyBookOf stored T
  -- so a file that has the rows of a desk's picture, in any order, opens as that picture
  pub one_book :
      (F : History) → Legal F → (stored : StoredRows) → AreReorderedColumns stored (rows_columns (flat (picture F))) →
      IsOnlyBookOf stored (picture F)
  -- so the tables of a desk are a book that a file can hold
  pub stored_books : (F : History) → Legal F → IsStoredBook (picture F)
  -- the rows of a desk's picture are in their limits, table by table
  pub picture : (F : History) → Legal F → AreStored (flat (picture F))
