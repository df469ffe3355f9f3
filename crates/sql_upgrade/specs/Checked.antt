-- What format 2 adds to a desk of format 1, with rows that were checked.
use Rattle.sqlite.specs.{Held.Held, Held.state, Store.Ghosts}
use Rattle.store_book.specs.IsBook.{IsBookOfStored}
use Rattle.store_columns.specs.declared.columns.StoredRows.{StoredRows}
use Rattle.desk_model.specs.Tables.{Tables}
use Rattle.sql_read.specs.First.{AreFirstShown}
use Rattle.sql_upgrade.specs.{FirstDesks.AreOfDesks, declared.additions.Additions.Additions}

-- the database showed the rows of a book in format 1, and these are what is added to whatever desk it holds
pub record AreChecked {S : Type 0} (g : Ghosts S) (conn : Held S) (additions : Additions) : Type 0 where
  pub stored : StoredRows
  pub shown : AreFirstShown g conn stored
  pub book : Tables
  pub is_book : IsBookOfStored stored book
  pub added : AreOfDesks (state g conn).now additions
