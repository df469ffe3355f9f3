-- Which tables are a book.
use Rattle.std.specs.Prelude.{◌+◌, ◌≡◌, IsSome}
use Rattle.desk_model.specs.{Questions.account_on, Questions.authorization_on, Tables.Tables, Kept.EachOf, declared.rows.OrderRow.OrderRow}
use Rattle.model_laws.specs.{Distinct.Distinct, Ordered.Ascends, Ordered.Below}
use Rattle.store_book.specs.FaultNumbers.{challenges_of}
use Rattle.store_columns.specs.{Flat.AreReordered, Flat.flat, Columns.rows_columns, Limits.AreStored, TextColumns.ColumnsAreTexts}
use Rattle.store_columns.specs.{declared.columns.StoredRows.StoredRows, declared.columns.FlatRows.FlatRows}

-- the numbers of each table ascend, those of each authorization's challenges, and the places of what each order lists
pub record AreInOrder (T : Tables) : Type 0 where
  pub nonces : Ascends (λ n. n.serial) 1 T.nonces
  pub accounts : Ascends (λ a. a.number) 1 T.accounts
  pub authorizations : Ascends (λ a. a.number) 1 T.authorizations
  pub challenges : EachOf (λ a. Ascends (λ c. c.number) 1 a.challenges) T.authorizations
  pub orders : Ascends (λ o. o.number) 1 T.orders
  pub places : EachOf (λ o. Ascends (λ l. l.place) 1 o.listed) T.orders

-- no number is above the last one given
pub record KeepCounters (T : Tables) : Type 0 where
  pub nonces : Below (λ n. n.serial) (T.meta.counters.nonces + 1) T.nonces
  pub accounts : Below (λ a. a.number) (T.meta.counters.accounts + 1) T.accounts
  pub authorizations : Below (λ a. a.number) (T.meta.counters.authorizations + 1) T.authorizations
  pub challenges : EachOf (λ a. Below (λ c. c.number) (T.meta.counters.challenges + 1) a.challenges) T.authorizations
  pub orders : Below (λ o. o.number) (T.meta.counters.orders + 1) T.orders

-- what an order lists is there
abbrev pub ListsFound : Tables → OrderRow → Type 0
ListsFound T o = EachOf (λ l. IsSome (authorization_on T l.authorization)) o.listed

-- each reference is found
pub record HaveReferences (T : Tables) : Type 0 where
  pub authorizations : EachOf (λ a. IsSome (account_on T a.account)) T.authorizations
  pub orders : EachOf (λ o. IsSome (account_on T o.account)) T.orders
  pub listed : EachOf (ListsFound T) T.orders

-- no key and no challenge's number stands twice
pub record AreDistinct (T : Tables) : Type 0 where
  pub keys : Distinct (λ a. a.key) T.accounts
  pub challenges : Distinct (λ c. c.number) (challenges_of T.authorizations)

-- the rows keep the counters, have what they refer to, and repeat nothing
pub record IsSound (T : Tables) : Type 0 where
  pub counters : KeepCounters T
  pub references : HaveReferences T
  pub distinct : AreDistinct T

-- the tables are a book
pub record IsBook (T : Tables) : Type 0 where
  pub in_order : AreInOrder T
  pub sound : IsSound T

-- the tables are a book, with these rows
pub record IsBookOf (rows : FlatRows) (T : Tables) : Type 0 where
  pub is_book : IsBook T
  pub has_rows : AreReordered rows (flat T)

-- the tables are a book, and its rows are those, in their limits, that the columns spell
pub record IsBookOfStored (stored : StoredRows) (T : Tables) : Type 0 where
  pub flat_rows : FlatRows
  pub spelled : stored ≡ rows_columns flat_rows
  pub in_limits : AreStored flat_rows
  pub book : IsBookOf flat_rows T

-- the tables are a book that a file can hold: its rows in the limits of their columns, and its texts UTF-8
pub record IsStoredBook (T : Tables) : Type 0 where
  pub book : IsBook T
  pub stored : AreStored (flat T)
  pub texts : ColumnsAreTexts (rows_columns (flat T))
