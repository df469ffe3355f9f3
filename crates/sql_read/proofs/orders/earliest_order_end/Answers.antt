use Rattle.std.proofs.Common.{ap, ◌∙◌}
use Rattle.sql_read.specs.Earliest.{order_ends}
use Rattle.sql_read.proofs.{EarliestRows.earliest_as, EarliestRows.order_end_find, LookUpReadings.order_end_reading, LookUpReadings.text, Looking.query_as}
use Rattle.sql_schema.specs.declared.orders.TheConstants as ord
use Rattle.sql_read.proofs.orders.earliest_order_end.Goals as goal

pub earliest-requires : goal.earliest-requires
earliest-requires g c = query_as c.text.ensures (order_end_reading c.args.status).selecting

pub returns : goal.returns
returns g c =
    c.earliest.ensures (λ T. order_ends T c.args.status) (λ T has.
    earliest_as (c.text.ensures ∙ ap (λ t. (ord.SELECT_EARLIEST.now, text t)) c.as_str.ensures)
    (order_end_find g.S.Store c.args.conn.now T has c.args.status))
