-- An order that is read without the bytes of its CSR and its certificate is in its limits just where the whole one is.
use Rattle.std.proofs.Common.{[], ◌≡◌, ℕ, List, Option, Some, None, arith}
use Rattle.desk_model.specs.declared.{rows.DatedBytes.DatedBytes, rows.OrderRow.OrderRow}
use Rattle.store_columns.specs.{Alike.AreAlikeOrders, Alike.without_bytes, Columns.order_columns, Limits.IsStoredOrder}
use Rattle.store_columns.specs.declared.columns.OrderColumns.{OrderColumns}

-- what was kept, with these bytes
abbrev filled : Option DatedBytes → Option (List ℕ) → Option DatedBytes
filled (Some kept) (Some bytes) = Some (record kept { bytes = bytes })
filled (Some kept) None = None
filled None bytes = None

-- what was kept, without its bytes
abbrev emptied : Option DatedBytes → Option DatedBytes
emptied None = None
emptied (Some kept) = Some (record kept { bytes = [] })

-- the whole order of columns that were read without these bytes
pub whole_of_read : (columns : OrderColumns) (read : OrderRow) → IsStoredOrder read → without_bytes columns ≡ order_columns read
    → (whole : OrderRow) × IsStoredOrder whole × (columns ≡ order_columns whole) × AreAlikeOrders read whole
whole_of_read columns read stored same = (
  record read { finalized = filled read.finalized columns.csr; certified = filled read.certified columns.cert },
  grind arith,
  grind arith,
  grind arith,
)

-- columns of a whole order can be read without these bytes
pub read_of_whole : (columns : OrderColumns) (whole : OrderRow) → IsStoredOrder whole → columns ≡ order_columns whole
    → (read : OrderRow) × IsStoredOrder read × (without_bytes columns ≡ order_columns read)
read_of_whole columns whole stored same =
    (record whole { finalized = emptied whole.finalized; certified = emptied whole.certified }, grind arith, grind arith)
