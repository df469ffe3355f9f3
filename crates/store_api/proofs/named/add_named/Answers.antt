use Rattle.std.proofs.Common.{add-one, ap, arith, drop-cons}
use Rattle.store_api.proofs.{Found.finds_then, Gathered.gathered}
use Rattle.desk_model.specs.declared.rows.AuthorizationRow.{AuthorizationRow}
use Rattle.model_parts.specs.Loaded.{authorizations_for}
use Rattle.store_api.proofs.named.add_named.Goals as goal

pub loop-name-preserved : goal.loop-name-preserved
loop-name-preserved g c =
    rw (add-one c.loop-name.name-index)
    (finds_then _ c.loop-name.invariant c.in_ok-add_for.ensures (λ T so_far put_now.
    gathered (λ (r : AuthorizationRow). r.number) (authorizations_for T c.args.account) _ _ _ _ _ _ _
    (drop-cons c.args.names.now c.loop-name.name-index _ (omega arith)) (ap (authorizations_for T c.args.account) c.name-item.is) put_now so_far))
