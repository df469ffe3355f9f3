use Rattle.std.proofs.Common.{◌≡◌, drop, map}
use Rattle.store_api.specs.Needing.{lacking}
use Rattle.store_columns.specs.declared.columns.JoinedChallenge.{JoinedChallenge}
use Rattle.desk_model.specs.declared.rows.AuthorizationRow.{AuthorizationRow}
use Rattle.store_api.proofs.waiting.add_owners.Given as goal

abbrev pub invariant-loop-found : goal.invariant-loop-found
invariant-loop-found l =
    lacking (λ (r : AuthorizationRow). r.number) (map (λ (w : JoinedChallenge). w.authorization) (drop l.found-index l.waiting)) l.authorizations
    ≡ lacking (λ (r : AuthorizationRow). r.number) (map (λ (w : JoinedChallenge). w.authorization) l.waiting) l.fn.authorizations
