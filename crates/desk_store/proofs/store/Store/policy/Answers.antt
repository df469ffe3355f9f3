use Rattle.std.proofs.Common.{refl}
use Rattle.store_api.proofs.Readings.{reads_failed_as}
use Rattle.desk_store.proofs.store.Store.policy.Goals as goal

pub returns-in-Err-clause-reads : goal.returns-in-Err-clause-reads
returns-in-Err-clause-reads g c =
    let read = c.meta_row-read.ensures in reads_failed_as (c.in-Err.ensures.reads c.args.self.now refl read.asks read.unchanged read.caused)
