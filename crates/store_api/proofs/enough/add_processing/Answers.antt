use Rattle.std.proofs.Common.{ap, map, ◌∙◌, arith}
use Rattle.desk_model.specs.{Order.is_processing, declared.rows.AuthorizationRow.AuthorizationRow, declared.rows.OrderRow.OrderRow}
use Rattle.model_laws.proofs.RowLists.{ascends_filter}
use Rattle.model_laws.specs.Placing.{puts}
use Rattle.model_parts.proofs.WorkLoading.{processing_loaded}
use Rattle.model_parts.specs.LookUps.{orders_processing}
use Rattle.store_api.proofs.{Found.finds_third, Places.places_put, Places.standing_at, Readings.reads_unchanged, Readings.unchanged_here}
use Rattle.store_api.proofs.enough.add_processing.Goals as goal
use Rattle.store_api.specs.Needing.{lacking}

pub returns : goal.returns
returns g c =
    let order = λ (o : OrderRow). o.number in
    let items = c.in_ok-places.places.items in
    finds_third c.add_listing.result
    (record { reads = c.in_ok-bare.ensures.reads; found = c.in_ok-bare.ensures.found })
    (record { reads = c.in_ok-places.ensures.reads; found = c.in_ok-places.ensures.found })
    (record { reads = reads_unchanged c.add_listing.result c.add_listing.ensures.lacks unchanged_here; found = λ honest T held. c.add_listing.ensures.put })
    (λ T bare places put_now ordered none no_orders. (
      put_now.0
          ∙ ap (lacking (λ (r : AuthorizationRow). r.number) (map standing_at items)) none
          ∙ places_put T ordered items places.0 places.1,
      put_now.1 (orders_processing T) (ascends_filter order (λ o. is_processing o.status) 1 T.orders ordered.orders.0) bare places.0
          ∙ ap (puts order (orders_processing T)) no_orders
          ∙ processing_loaded T ordered,
    ))

pub returns-in_err-places : goal.returns-in_err-places
returns-in_err-places g c = grind arith
