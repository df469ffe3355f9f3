use Rattle.std.proofs.Common.{refl}
use Rattle.std.specs.List.{flat_map}
use Rattle.store_api.proofs.{Found.fails_behind, Found.finds_then, Gathered.gathered}
use Rattle.desk_model.specs.declared.rows.{AccountRow.AccountRow, AuthorizationRow.AuthorizationRow}
use Rattle.model_parts.specs.Loaded.{authorizations_for}
use Rattle.store_api.proofs.named.add_each_named.Goals as goal

pub loop-account-preserved : goal.loop-account-preserved
loop-account-preserved g c =
    finds_then _ c.loop-account.invariant c.in_ok-add_named.ensures (λ T so_far put_now.
    gathered (λ (r : AuthorizationRow). r.number) (λ (x : AccountRow). flat_map (authorizations_for T x.number) c.args.names.now) c.in-Some.account.now
    _ _ _ _ _ _ c.in-Some.ensures.steps refl put_now so_far)

pub returns-in_err-add_named : goal.returns-in_err-add_named
returns-in_err-add_named g c = fails_behind _ c.loop-account.invariant c.in_err-add_named.ensures c.from_residual.ensures.1
