use Rattle.std.proofs.Common.{◌≡◌}
use Rattle.std.specs.{Prelude.Ok, List.flat_map}
use Rattle.store_api.specs.{Finding.Finds, Needing.missings}
use Rattle.desk_model.specs.{Derived.numbers_of, declared.rows.AuthorizationRow.AuthorizationRow, declared.rows.OrderRow.OrderRow}
use Rattle.model_parts.specs.LookUps.{bare_authorizations}
use Rattle.store_api.proofs.links.add_bare_listed.Given as goal

abbrev pub invariant-loop-order : goal.invariant-loop-order
invariant-loop-order g l =
    Finds g.S.Kept.sight {A = Unit {0}} l.fn.source l.source (Ok tt) (λ T.
    missings (λ (r : AuthorizationRow). r.number) (bare_authorizations T) (flat_map (λ (o : OrderRow). numbers_of o.listed) l.order-iterator)
    l.authorizations
    ≡ missings (λ (r : AuthorizationRow). r.number) (bare_authorizations T) (flat_map (λ (o : OrderRow). numbers_of o.listed) l.orders)
    l.fn.authorizations)
