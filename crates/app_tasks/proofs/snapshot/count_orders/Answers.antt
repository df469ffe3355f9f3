use Rattle.std.proofs.{Common.◌≡◌, Common.length, Common.ap, Common.◌∙◌, Common.rules, lemmas.List.length-map}
use Rattle.model_parts.specs.LookUps.{orders_processing}
use Rattle.store_columns.specs.Flat.{without_listed}
use Rattle.app_tasks.proofs.snapshot.count_orders.Goals as goal

pub returns-clause-found : goal.returns-clause-found
returns-clause-found g c honest T held =
    let counted : c.len.result ≡ length c.in_ok-orders.orders.items = search (rules, c.len.ensures) in
    counted ∙ ap length (c.in_ok-orders.ensures.found honest T held) ∙ length-map (orders_processing T) without_listed
