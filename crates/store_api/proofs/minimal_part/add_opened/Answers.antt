use Rattle.std.proofs.Common.{[], ◌++◌, ap, ◌∙◌}
use Rattle.std.specs.Prelude.{if◌then◌else◌}
use Rattle.model_laws.specs.Placing.{puts}
use Rattle.store_api.proofs.{Found.fails_behind, Found.finds_failing, Found.finds_third, Gathered.of_three, Gathered.put_then}
use Rattle.store_api.proofs.minimal_part.add_opened.Goals as goal
use Rattle.store_api.specs.Needing.{orders_by}
use Rattle.desk_model.specs.declared.rows.OrderRow.{OrderRow}
use Rattle.desk_model.specs.declared.status.OrderStatus.TheVariants as order
use Rattle.model_parts.specs.{Loaded.listing_orders, Loaded.past_orders, LookUps.orders_past}

pub returns : goal.returns
returns g c =
    let number = λ (o : OrderRow). o.number in
    let needs = c.args.needs.now in
    finds_third c.add_named_order.result c.in_ok-add_each.ensures c.in_ok-add_linked.ensures c.add_named_order.ensures (λ T past listing named.
    put_then number (past_orders T needs.moment ++ listing_orders T c.args.authorizations.now) (if needs.needs_listed then orders_by T needs else []) _ _ _
    (put_then number (past_orders T needs.moment) (listing_orders T c.args.authorizations.now) _ _ _
    (past ∙ ap (λ l. puts number l c.args.orders.now)
    (of_three (λ s. orders_past T s needs.moment) order.Pending order.Ready order.Processing)) listing)
    named)

pub returns-in_err-add_each : goal.returns-in_err-add_each
returns-in_err-add_each g c = finds_failing _ c.in_err-add_each.ensures c.from_residual.ensures.1

pub returns-in_err-add_linked : goal.returns-in_err-add_linked
returns-in_err-add_linked g c = fails_behind _ c.in_ok-add_each.ensures c.in_err-add_linked.ensures c.from_residual-in_err-add_linked.ensures.1
