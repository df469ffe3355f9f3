use Rattle.std.proofs.Common.{ap, inl}
use Rattle.app_tasks.specs.declared.fault.Fault.TheVariants as fault
use Rattle.app_commands.proofs.restoring.hold_place.Goals as goal

pub returns-in-Err : goal.returns-in-Err
returns-in-Err g = inl (g.in-Err.fault, _, ap (λ d. fault.Place d g.is_unreached.result) g.desk_fault.ensures)
