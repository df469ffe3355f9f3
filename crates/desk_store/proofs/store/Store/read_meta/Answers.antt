use Rattle.std.proofs.Common.{◌≡◌, refl}
use Rattle.desk_store.proofs.{Knowing.meta_learned, NothingWritten.learns_on, NothingWritten.reads_knowing}
use Rattle.store_api.proofs.Readings.{reads_failed_as}
use Rattle.desk_store.proofs.store.Store.read_meta.Goals as goal

pub returns-in-Ok-clause-reads : goal.returns-in-Ok-clause-reads
returns-in-Ok-clause-reads g c =
    let old = c.args.self.now in
    let read = c.meta_row-read.ensures in
    let mid = c.or_fault.new.self in
    let known = c.learn_meta.new.self in
    reads_knowing g.S.Store old mid (record { conn = mid.conn; known = known }) c.in-Ok.meta _ refl
    (c.in-Ok.ensures.reads old refl read.asks read.unchanged read.caused)
    (learns_on g.S.Store (λ T meta. meta ≡ T.meta) old c.meta_row-read.new.conn mid known _ c.in-Ok.meta read.found
    c.in-Ok.ensures.found c.or_fault.ensures.honest (meta_learned mid.known known c.in-Ok.meta c.learn_meta.ensures.meta c.learn_meta.ensures.rest))

pub returns-in-Err-clause-reads : goal.returns-in-Err-clause-reads
returns-in-Err-clause-reads g c =
    let read = c.meta_row-read.ensures in reads_failed_as (c.in-Err.ensures.reads c.args.self.now refl read.asks read.unchanged read.caused)
