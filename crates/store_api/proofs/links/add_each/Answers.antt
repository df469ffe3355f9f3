use Rattle.std.proofs.Common.{add-one, ap, arith, drop-cons}
use Rattle.store_api.proofs.{Found.finds_then, Gathered.gathered}
use Rattle.store_api.proofs.links.add_each.Goals as goal

pub loop-item-preserved : goal.loop-item-preserved
loop-item-preserved g c =
    rw (add-one c.loop-item.item-index)
    (finds_then _ c.loop-item.invariant c.in_ok-add_rows.ensures (λ T so_far put_now.
    gathered g.R.Row.number (g.Q.LeadsTo.rows_of T) _ _ _ _ _ _ _ (drop-cons c.args.items.now c.loop-item.item-index _ (omega arith))
    (ap (g.Q.LeadsTo.rows_of T) c.item-item.is) put_now so_far))
