-- Columns of a file, in any order, and the book that they tell.
use Rattle.std.specs.{Prelude.◌≡◌, List.Sorted.IsPermutation}
use Rattle.store_columns.specs.declared.columns.StoredRows.{StoredRows}
use Rattle.desk_model.specs.Tables.{Tables}
use Rattle.store_book.specs.IsBook.{IsBookOfStored}

-- the same columns in each table, in any order
pub record AreReorderedColumns (stored others : StoredRows) : Type 0 where
  pub metas : IsPermutation stored.metas others.metas
  pub nonces : IsPermutation stored.nonces others.nonces
  pub accounts : IsPermutation stored.accounts others.accounts
  pub orders : IsPermutation stored.orders others.orders
  pub authzs : IsPermutation stored.authzs others.authzs
  pub order_authzs : IsPermutation stored.order_authzs others.order_authzs
  pub challs : IsPermutation stored.challs others.challs
  pub chall_keys : IsPermutation stored.chall_keys others.chall_keys

-- the tables are a book of these columns, and the only one
pub record IsOnlyBookOf (stored : StoredRows) (T : Tables) : Type 0 where
  pub book : IsBookOfStored stored T
  pub only : (U : Tables) → IsBookOfStored stored U → U ≡ T
