use Rattle.std.proofs.Common.{◌∙◌, ap}
use Rattle.desk_model.specs.{Change.applied_one, Questions.order_on, declared.rows.OrderRow.OrderRow}
use Rattle.sql_write.proofs.StoredRows.{put_lent}
use Rattle.sql_write.proofs.stored.OrderRowStored.put_by.Goals as goal

pub returns-in-PutOrder : goal.returns-in-PutOrder
returns-in-PutOrder c T =
    ap (λ change. order_on (applied_one change T) c.args.number) c.in-PutOrder.is
    ∙ put_lent (λ (r : OrderRow). r.number) c.args.number _ T.orders _ c.then_some.ensures
