use Rattle.app_reports.proofs.Reporting.{report_failed}
use Rattle.store_api.proofs.Readings.{unchanged_then}
use Rattle.app_reports.proofs.lists.write_kept.Goals as goal

pub returns-in_err-count-clause-reads : goal.returns-in_err-count-clause-reads
returns-in_err-count-clause-reads g c =
    report_failed c.from_residual-in_err-count.result (unchanged_then c.loop-row.invariant.unchanged c.in_ok-row.ensures.reads)
    c.in_err-count.ensures.reads c.from_residual-in_err-count.ensures.1
