use Rattle.store_api.proofs.Readings.{reads_failing, reads_then, unchanged_read}
use Rattle.store_api.proofs.enough.order_work_book.Goals as goal

pub returns-in_err-add_processing-clause-reads : goal.returns-in_err-add_processing-clause-reads
returns-in_err-add_processing-clause-reads g c =
    reads_then _ (unchanged_read c.in_ok-meta.ensures.reads)
    (reads_failing _ c.in_err-add_processing.ensures.reads c.from_residual-in_err-add_processing.ensures.1)
