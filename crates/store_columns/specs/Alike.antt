-- What a check of orders does not look at: the bytes that clients and the signing office handed in.
use Rattle.std.specs.Prelude.{◌≡◌, [], option_map}
use Rattle.desk_model.specs.declared.rows.OrderRow.{OrderRow}
use Rattle.store_columns.specs.declared.columns.OrderColumns.{OrderColumns}

-- no check of the table tells these orders apart
pub record AreAlikeOrders (order other : OrderRow) : Type 0 where
  pub number : order.number ≡ other.number
  pub account : order.account ≡ other.account

-- the columns of an order, its CSR and its certificate without their bytes
abbrev pub without_bytes : OrderColumns → OrderColumns
without_bytes columns = record columns { csr = option_map (λ _. []) columns.csr; cert = option_map (λ _. []) columns.cert }
