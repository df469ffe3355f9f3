use Rattle.app_reports.proofs.Reporting.{report_failed, reports_then, unchanged_reported}
use Rattle.store_api.proofs.Readings.{unchanged_both}
use Rattle.app_reports.proofs.tally.write_statuses.Goals as goal

pub returns-in_err-write_tally-3-clause-reads : goal.returns-in_err-write_tally-3-clause-reads
returns-in_err-write_tally-3-clause-reads g c =
    report_failed c.from_residual-in_err-write_tally-3.result
    (unchanged_both (unchanged_reported c.in_ok-write_tally.ensures.reads) (unchanged_reported c.in_ok-write_tally-2.ensures.reads))
    c.in_err-write_tally-3.ensures.reads c.from_residual-in_err-write_tally-3.ensures.1

pub returns-clause-reads : goal.returns-clause-reads
returns-clause-reads g c =
    reports_then c.write_tally-4.result
    (unchanged_both (unchanged_both (unchanged_reported c.in_ok-write_tally.ensures.reads) (unchanged_reported c.in_ok-write_tally-2.ensures.reads))
    (unchanged_reported c.in_ok-write_tally-3.ensures.reads)) c.write_tally-4.ensures.reads
