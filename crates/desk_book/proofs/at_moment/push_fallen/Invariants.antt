use Rattle.std.proofs.Common.{◌≡◌, ◌++◌, map, filter}
use Rattle.desk_model.specs.{Change.orders_fallen, Effect.falls, declared.rows.OrderRow.OrderRow, declared.rows.Change.TheVariants.PutOrder}
use Rattle.desk_model.specs.declared.status.OrderStatus.TheVariants as order
use Rattle.desk_book.proofs.at_moment.push_fallen.Given as goal

abbrev pub invariant-loop-row : goal.invariant-loop-row
invariant-loop-row l =
    l.changes.items ++ map PutOrder (map (λ (r : OrderRow). record r { status = order.Invalid }) (filter (falls l.moment l.book.authorizations) l.row-iterator))
    ≡ l.fn.changes.items ++ map PutOrder (orders_fallen l.moment l.book)
