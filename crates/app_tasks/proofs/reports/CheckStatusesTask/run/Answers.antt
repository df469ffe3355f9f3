use Rattle.app_tasks.proofs.reports.CheckStatusesTask.run.Goals as goal

pub returns : goal.returns
returns g c =
    let it = c.list_faults-checked.ensures in
    record { checked = c.list_faults-checked.result; reads = it.reads; found = it.found; printed = it.printed; ends = c.check_status.ensures }
