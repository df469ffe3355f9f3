use Rattle.app_tasks.proofs.reports.ListRowsTask.run.Goals as goal

pub returns : goal.returns
returns g c =
    let it = c.list_rows-listed.ensures in record { listed = c.list_rows-listed.result; reads = it.reads; printed = it.printed; ends = c.report_status.ensures }
