use Rattle.store_api.proofs.Readings.{reads_failing, reads_then, unchanged_read}
use Rattle.store_api.proofs.all_rows.whole_book.Goals as goal

pub returns-in_err-add_all_rows-clause-reads : goal.returns-in_err-add_all_rows-clause-reads
returns-in_err-add_all_rows-clause-reads g c =
    reads_then _ (unchanged_read c.in_ok-meta.ensures.reads)
    (reads_failing _ c.in_err-add_all_rows.ensures.reads c.from_residual-in_err-add_all_rows.ensures.1)
