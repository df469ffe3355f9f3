use Rattle.std.proofs.Common.{subst, sym}
use Rattle.store_api.proofs.Readings.{reads_failing, reads_then, reads_unchanged, unchanged_both, unchanged_read}
use Rattle.app_tasks.specs.Metrics.{IsSnapshotOf, snapshot_of}
use Rattle.app_tasks.proofs.snapshot.take_snapshot.Goals as goal

pub returns-clause-reads : goal.returns-clause-reads
returns-clause-reads g c =
    reads_unchanged _ tt (unchanged_both (unchanged_read c.in_ok-counters.ensures.reads)
    (unchanged_both (unchanged_read c.in_ok-challenges.ensures.reads) (unchanged_read c.in_ok-orders.ensures.reads)))

pub returns-clause-found : goal.returns-clause-found
returns-clause-found g c = λ honest T held.
    let before = c.in_ok-orders.ensures.reads.honest honest in
    let begun = c.in_ok-challenges.ensures.reads.honest before in
    let has = c.in_ok-counters.ensures.reads.tables begun T held in
    let had = c.in_ok-challenges.ensures.reads.tables before T has in
    let counters = c.in_ok-counters.ensures.found begun T held in
    let challenges = c.in_ok-challenges.ensures.found before T has in
    let orders = c.in_ok-orders.ensures.found honest T had in
    subst (IsSnapshotOf c.args.reading.now T) (sym c.snapshot_of.ensures) (record {
      told = λ i. snapshot_of c.args.reading.now (counters i) c.in_ok-challenges.challenges c.in_ok-orders.orders;
      challenges = challenges;
      orders = orders;
    })

pub returns-in_err-challenges-clause-reads : goal.returns-in_err-challenges-clause-reads
returns-in_err-challenges-clause-reads g c =
    reads_then _ (unchanged_read c.in_ok-counters.ensures.reads)
    (reads_failing _ c.in_err-challenges.ensures.reads c.from_residual-in_err-challenges.ensures.1)

pub returns-in_err-orders-clause-reads : goal.returns-in_err-orders-clause-reads
returns-in_err-orders-clause-reads g c =
    reads_then _ (unchanged_both (unchanged_read c.in_ok-counters.ensures.reads) (unchanged_read c.in_ok-challenges.ensures.reads))
    (reads_failing _ c.in_err-orders.ensures.reads c.from_residual-in_err-orders.ensures.1)
