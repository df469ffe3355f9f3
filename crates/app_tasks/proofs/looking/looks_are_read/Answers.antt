use Rattle.app_tasks.proofs.Reading as reading
use Rattle.app_tasks.proofs.looking.looks_are_read.Goals as goal

pub returns : goal.returns
returns c = reading.looks_are_read
