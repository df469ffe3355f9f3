-- The rows of tables that hold texts hold them table by table, and so do their columns.
use Rattle.std.specs.Prelude.{ℕ}
use Rattle.desk_model.specs.{Entry.History, Texts.HoldTexts, Legal.EachFollows, Legal.Legal, Tables.Tables, Tables.picture, Tables.tables_at}
use Rattle.model_laws.proofs.{Basics.each-map, TextFacts.hold_texts}
use Rattle.store_book.specs.IsBook.{IsStoredBook}
use Rattle.store_columns.specs.{Columns.rows_columns, TextColumns.ColumnsAreTexts, TextColumns.RowsHoldTexts, Flat.flat}
use Rattle.store_columns.proofs.Utf8Columns.{texts_are_written}
use Rattle.store_laws.proofs.{Books.tables_book, Rows.picture_stored}
use Rattle.std.proofs.Common.{rules}

-- as the tables hold them
flat_holds : (T : Tables) → HoldTexts T → RowsHoldTexts (flat T)
flat_holds T h = search (rules, each-map)

-- so the columns of a history's tables are texts
pub tables_are_texts : (F : History) → EachFollows F → (t : ℕ) → ColumnsAreTexts (rows_columns (flat (tables_at F t)))
tables_are_texts F follows t = texts_are_written.rows (flat (tables_at F t)) (flat_holds (tables_at F t) (hold_texts F follows t))

-- so a file can hold the tables of a desk
pub picture_is_stored_book : (F : History) → Legal F → IsStoredBook (picture F)
picture_is_stored_book F legal = search (rules, tables_book, picture_stored, tables_are_texts)
