use Rattle.app_tasks.proofs.reports.ShowPageTask.run.Goals as goal

pub returns : goal.returns
returns g c =
    let it = c.write_page-page.ensures in record { told = c.write_page-page.result; reads = it.reads; printed = it.printed; ends = c.report_status.ensures }
