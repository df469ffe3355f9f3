use Rattle.store_api.proofs.Readings.{reads_failing, reads_unchanged, reads_then, unchanged_both, unchanged_read}
use Rattle.store_api.proofs.enough.challenge_work_book.Goals as goal
use Rattle.std.proofs.Common.{rules}

pub returns-clause-reads : goal.returns-clause-reads
returns-clause-reads g c = reads_unchanged _ tt (unchanged_both (unchanged_read c.in_ok-meta.ensures.reads) (unchanged_read c.in_ok-add_working.ensures.reads))

pub returns-clause-found : goal.returns-clause-found
returns-clause-found g c = search rules

pub returns-in_err-add_working-clause-reads : goal.returns-in_err-add_working-clause-reads
returns-in_err-add_working-clause-reads g c =
    reads_then _ (unchanged_read c.in_ok-meta.ensures.reads)
    (reads_failing _ c.in_err-add_working.ensures.reads c.from_residual-in_err-add_working.ensures.1)
