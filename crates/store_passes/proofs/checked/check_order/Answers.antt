use Rattle.store_api.proofs.Readings.{unchanged_read}
use Rattle.store_passes.proofs.Passing.{fails_then}
use Rattle.store_passes.proofs.checked.check_order.Goals as goal

pub returns-in_err-statuses-clause-reads : goal.returns-in_err-statuses-clause-reads
returns-in_err-statuses-clause-reads g c =
    fails_then _ (unchanged_read c.in_ok-row.ensures.reads) c.in_err-statuses.ensures.reads c.from_residual-in_err-statuses.ensures.1
