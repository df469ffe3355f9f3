-- The fault of a desk, by what it is not opened, made or closed for.
use Rattle.desk.specs.{Faults.storage_fault, declared.fault.DeskFault.DeskFault}
use Rattle.desk.specs.declared.fault.DeskFault.TheVariants as deskfault
use Rattle.desk_store.specs.declared.open_fault.OpenFault.{OpenFault}
use Rattle.desk_store.specs.declared.open_fault.OpenFault.TheVariants as openfault

-- the desk's fault, where no desk was opened, made or closed
abbrev pub open_fault : OpenFault → DeskFault
open_fault (openfault.Storage why) = storage_fault why
open_fault openfault.NotADesk = deskfault.NotADesk
open_fault openfault.NewerFormat = deskfault.NewerFormat
