use Rattle.std.proofs.Common.{[], ◌∷◌, add-one, ap, arith, drop, drop-cons, map, suc, sym, ◌∙◌}
use Rattle.store_api.proofs.waiting.add_owners.Goals as goal
use Rattle.store_api.specs.Needing.{lacking, missing}
use Rattle.store_columns.specs.declared.columns.JoinedChallenge.{JoinedChallenge}
use Rattle.desk_model.specs.declared.rows.AuthorizationRow.{AuthorizationRow}

pub loop-found-preserved : goal.loop-found-preserved
loop-found-preserved c =
    let number = λ (r : AuthorizationRow). r.number in
    let owner = λ (w : JoinedChallenge). w.authorization in
    let row = c.in_ok-clone.ensures.cases ∙ ap owner c.found-item.is in
    rw (add-one c.loop-found.found-index)
    (ap (lacking number (map owner (drop (suc c.loop-found.found-index) c.args.waiting.now)))
    (c.in_ok-put_lacking.ensures ∙ (λ i. missing number (λ n. row i ∷ []) (number (row i)) c.loop-found.authorizations))
    ∙ ap (λ ws. lacking number (map owner ws) c.loop-found.authorizations)
    (sym (drop-cons c.args.waiting.now c.loop-found.found-index _ (omega arith)))
    ∙ c.loop-found.invariant)
