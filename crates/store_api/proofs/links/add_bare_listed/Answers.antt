use Rattle.std.proofs.Common.{ap, sym, ◌∙◌}
use Rattle.std.specs.List.{flat_map}
use Rattle.store_api.proofs.{Found.fails_behind, Found.finds_then, Missing.missings_append}
use Rattle.store_api.proofs.links.add_bare_listed.Goals as goal
use Rattle.store_api.specs.Needing.{missings}
use Rattle.desk_model.specs.{Derived.numbers_of, declared.rows.AuthorizationRow.AuthorizationRow, declared.rows.OrderRow.OrderRow}
use Rattle.model_parts.specs.LookUps.{bare_authorizations}

pub loop-order-preserved : goal.loop-order-preserved
loop-order-preserved g c =
    let number = λ (r : AuthorizationRow). r.number in
    let listed = flat_map (λ (o : OrderRow). numbers_of o.listed) in
    finds_then _ c.loop-order.invariant c.in_ok-add_bare_places.ensures (λ T so_far put_now.
    ap (missings number (bare_authorizations T) (listed c.next.new.self))
    (put_now ∙ ap (λ ls. missings number (bare_authorizations T) (numbers_of ls) c.loop-order.authorizations) c.as_slice.ensures)
    ∙ sym (missings_append number (bare_authorizations T) (numbers_of c.in-Some.order.now.listed) (listed c.next.new.self) c.loop-order.authorizations)
    ∙ ap (λ rows. missings number (bare_authorizations T) (listed rows) c.loop-order.authorizations) (sym c.in-Some.ensures.steps)
    ∙ so_far)

pub returns-in_err-add_bare_places : goal.returns-in_err-add_bare_places
returns-in_err-add_bare_places g c = fails_behind _ c.loop-order.invariant c.in_err-add_bare_places.ensures c.from_residual.ensures.1
