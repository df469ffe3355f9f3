use Rattle.desk_files.proofs.Closed.{leaves_as_stop, left_of}
use Rattle.desk_files.proofs.closing.leave_from.Goals as goal

pub returns : goal.returns
returns g c clean =
    leaves_as_stop c.args.store c.into_store.result (c.into_store.ensures.numbered clean) (c.into_store.ensures.sound clean)
    (λ trees may. left_of trees _ _ c.close.ensures (c.into_store.ensures.quiet.outcomes trees may))
