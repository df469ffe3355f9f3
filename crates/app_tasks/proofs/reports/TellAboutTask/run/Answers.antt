use Rattle.app_tasks.proofs.reports.TellAboutTask.run.Goals as goal

pub returns : goal.returns
returns g c =
    let it = c.tell_about-about.ensures in record { told = c.tell_about-about.result; reads = it.reads; printed = it.printed; ends = c.report_status.ensures }
