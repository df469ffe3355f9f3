use Rattle.std.proofs.Common.{inl, inr, refl}
use Rattle.desk_store.specs.declared.open_fault.OpenFault.TheVariants.{NotADesk}
use Rattle.app_files.specs.Endings.{unheld}
use Rattle.app_files.specs.declared.left.Left.TheVariants as rest
use Rattle.app_files.proofs.holding.hold.Goals as goal

pub returns-then-is_beside_file : goal.returns-then-is_beside_file
returns-then-is_beside_file g c = unheld (NotADesk, rest.Untouched) (inl (inl refl))

pub returns-in-Err : goal.returns-in-Err
returns-in-Err g c = unheld (c.in-Err.fault, rest.Untouched) (inl (inr c.in-Err.ensures))
