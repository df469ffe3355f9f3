use Rattle.std.proofs.Common.{◌≡◌, Option, None, Some, IfSome}
use Rattle.desk_model.specs.declared.rows.OrderRow.{OrderRow}
use Rattle.store_columns.specs.Alike.{AreAlikeOrders, without_bytes}
use Rattle.store_columns.specs.{Columns.order_columns, Limits.IsStoredOrder, Reading.IsRead, declared.columns.OrderColumns.OrderColumns}
use Rattle.store_columns.proofs.Unread.{read_of_whole, whole_of_read}
use Rattle.sql_read.specs.Spelled.{order_in}
use Rattle.sql_read.proofs.orders.OrderColumnsSelected.like.Goals as goal

-- what is read without bytes is like the order of the columns
read_like : (columns : OrderColumns) (read : Option OrderRow) → IsRead order_columns IsStoredOrder (without_bytes columns) read
    → IfSome read (λ like. (whole : OrderRow) × IsStoredOrder whole × (columns ≡ order_columns whole) × AreAlikeOrders like whole)
read_like columns None is = tt
read_like columns (Some read) is = whole_of_read columns read is.0 is.1

-- where nothing is read there is no such order
none_read : (columns : OrderColumns) (read : Option OrderRow) → IsRead order_columns IsStoredOrder (without_bytes columns) read → read ≡ None
    → (whole : OrderRow) → IsStoredOrder whole → columns ≡ order_columns whole → ⊥
none_read columns None is none whole stored same =
    let bare = read_of_whole columns whole stored same in
    is bare.0 bare.1 bare.2
none_read columns (Some read) is none whole stored same = absurd (cc none)

pub returns-clause-like : goal.returns-clause-like
returns-clause-like c =
    let told = rw c.in-Some.is at c.in_ok-columns.ensures.read in
    let are : c.in-Some.columns ≡ without_bytes (order_in c.args.row.now) = rw told at c.order_without_bytes.ensures.read in
    read_like (order_in c.args.row.now) c.in_ok-read.field-0 (rw are at c.in_ok-read.ensures)

pub returns-clause-none : goal.returns-clause-none
returns-clause-none c none fits =
    let told = rw c.in-Some.is at c.in_ok-columns.ensures.read in
    let are : c.in-Some.columns ≡ without_bytes (order_in c.args.row.now) = rw told at c.order_without_bytes.ensures.read in
    none_read (order_in c.args.row.now) c.in_ok-read.field-0 (rw are at c.in_ok-read.ensures) none
