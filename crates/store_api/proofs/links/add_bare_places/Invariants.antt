use Rattle.std.proofs.Common.{◌≡◌, drop}
use Rattle.std.specs.Prelude.{Ok}
use Rattle.store_api.specs.{Finding.Finds, Needing.missings}
use Rattle.desk_model.specs.{Derived.numbers_of, declared.rows.AuthorizationRow.AuthorizationRow}
use Rattle.model_parts.specs.LookUps.{bare_authorizations}
use Rattle.store_api.proofs.links.add_bare_places.Given as goal

abbrev pub invariant-loop-place : goal.invariant-loop-place
invariant-loop-place g l =
    Finds g.S.Kept.sight {A = Unit {0}} l.fn.source l.source (Ok tt) (λ T.
    missings (λ (r : AuthorizationRow). r.number) (bare_authorizations T) (numbers_of (drop l.place-index l.places)) l.authorizations
    ≡ missings (λ (r : AuthorizationRow). r.number) (bare_authorizations T) (numbers_of l.places) l.fn.authorizations)
