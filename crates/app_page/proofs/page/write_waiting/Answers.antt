use Rattle.app_reports.proofs.Reporting.{reports_then, unchanged_reported}
use Rattle.app_page.proofs.page.write_waiting.Goals as goal

pub returns-clause-reads : goal.returns-clause-reads
returns-clause-reads g c =
    reports_then c.write_table-2.result (unchanged_reported c.in_ok-write_table.ensures.reads) c.write_table-2.ensures.reads
