-- Rows that stand by key, table by table, and the law of those of a book.
use Rattle.std.specs.Prelude.{◌≡◌}
use Rattle.store_columns.specs.{Columns.rows_columns, Limits.AreStored, declared.columns.FlatRows.FlatRows, declared.columns.StoredRows.StoredRows}
use Rattle.model_laws.specs.Ordered.{Ascends}
use Rattle.desk_model.specs.Tables.{Tables}
use Rattle.store_book.specs.{BookRows.AreBookRows, IsBook.IsBookOf, Passing.PlacedFrom}

-- each table stands in the order of its keys
pub record AreByKey (rows : FlatRows) : Type 0 where
  pub nonces : Ascends (λ n. n.serial) 0 rows.nonces
  pub accounts : Ascends (λ a. a.number) 0 rows.accounts
  pub orders : Ascends (λ o. o.number) 0 rows.orders
  pub authorizations : Ascends (λ a. a.number) 0 rows.authorizations
  pub listed : PlacedFrom 0 0 rows.listed
  pub challenges : Ascends (λ c. c.row.number) 0 rows.challenges
  pub keys : Ascends (λ k. k.challenge) 0 rows.keys

-- so do the rows, in their limits, that the columns spell
abbrev pub AreStoredByKey : StoredRows → Type 0
AreStoredByKey stored = (rows : FlatRows) → AreStored rows → stored ≡ rows_columns rows → AreByKey rows

-- those of a book keep their counters and find what they refer to
abbrev pub BooksHaveRows : Type 0
BooksHaveRows = (rows : FlatRows) (T : Tables) → IsBookOf rows T → AreByKey rows → AreBookRows T.meta rows
