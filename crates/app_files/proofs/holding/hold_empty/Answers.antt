use Rattle.std.proofs.Common.{inl}
use Rattle.app_files.specs.Endings.{empty, unheld}
use Rattle.app_files.specs.declared.left.Left.TheVariants as rest
use Rattle.app_files.proofs.holding.hold_empty.Goals as goal

pub returns-in-Ok : goal.returns-in-Ok
returns-in-Ok g c = empty c.in-Ok.file

pub returns-in-Err : goal.returns-in-Err
returns-in-Err g c = unheld (c.empty_fault.result, rest.Untouched) (inl c.empty_fault.ensures)
