use Rattle.std.proofs.Common.{refl}
use Rattle.store_api.proofs.{Found.fails_behind, Found.finds_then, Gathered.gathered}
use Rattle.store_api.proofs.links.add_linked.Goals as goal

pub loop-other-preserved : goal.loop-other-preserved
loop-other-preserved g c =
    finds_then _ c.loop-other.invariant c.in_ok-add_rows.ensures (λ T so_far put_now.
    gathered g.R.Row.number (g.Q.LeadsTo.rows_of T) c.in-Some.other.now _ _ _ _ _ _ c.in-Some.ensures.steps refl put_now so_far)

pub returns-in_err-add_rows : goal.returns-in_err-add_rows
returns-in_err-add_rows g c = fails_behind _ c.loop-other.invariant c.in_err-add_rows.ensures c.from_residual.ensures.1
