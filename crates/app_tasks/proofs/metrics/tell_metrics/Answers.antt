use Rattle.app_tasks.proofs.metrics.tell_metrics.Goals as goal

pub returns-clause-printed : goal.returns-clause-printed
returns-clause-printed g c honest T holds = (c.in_ok-snapshot.snapshot, c.in_ok-snapshot.ensures.found honest T holds, c.in_ok-write_snapshot.ensures)
