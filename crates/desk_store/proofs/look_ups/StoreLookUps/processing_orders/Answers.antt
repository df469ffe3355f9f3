use Rattle.std.proofs.Common.{refl}
use Rattle.desk_store.proofs.NothingWritten.{handed}
use Rattle.desk_store.proofs.look_ups.StoreLookUps.processing_orders.Goals as goal

pub returns : goal.returns
returns g c =
    let read = c.processing_orders-read.ensures in
    handed g.S.Store read (c.or_fault.ensures.reads c.args.self.now refl read.asks read.unchanged read.caused)
    c.or_fault.ensures.found c.or_fault.ensures.honest
