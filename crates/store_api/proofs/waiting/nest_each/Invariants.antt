use Rattle.std.proofs.Common.{◌≡◌, drop, map}
use Rattle.model_laws.specs.Ordered.{Ascends}
use Rattle.desk_model.specs.declared.rows.AuthorizationRow.{AuthorizationRow}
use Rattle.store_api.proofs.WaitingRows.{numbered}
use Rattle.store_api.specs.Nesting.{nested}
use Rattle.store_api.proofs.waiting.nest_each.Given as goal

abbrev pub invariant-loop-found : goal.invariant-loop-found
invariant-loop-found l =
    Ascends (λ (r : AuthorizationRow). r.number) 1 l.fn.authorizations →
    (nested (map numbered (drop l.found-index l.waiting)) l.authorizations ≡ nested (map numbered l.waiting) l.fn.authorizations)
    × Ascends (λ (r : AuthorizationRow). r.number) 1 l.authorizations
