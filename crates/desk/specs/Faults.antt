-- The faults of a desk: their numbers, and which of decisions and stores they are.
use Rattle.std.specs.Prelude.{ℕ, ◌≡◌, Bool, true, false, Option, Some}
use Rattle.core_rules.specs.declared.fault.CoreFault.{CoreFault}
use Rattle.core_rules.specs.declared.fault.CoreFault.TheVariants as core
use Rattle.identifiers.specs.declared.parsed.CallFault.{CallFault}
use Rattle.identifiers.specs.declared.parsed.CallFault.TheVariants as callfault
use Rattle.store_api.specs.declared.fault.StorageFault.{StorageFault}
use Rattle.store_api.specs.declared.fault.StorageFault.TheVariants as storagefault
use Rattle.desk.specs.declared.fault.DeskFault.{DeskFault}
use Rattle.desk.specs.declared.fault.DeskFault.TheVariants as deskfault

-- the number of a fault
abbrev pub number_of : DeskFault → ℕ
number_of deskfault.Memory = 20
number_of deskfault.Device = 21
number_of deskfault.Reopen = 22
number_of deskfault.NotADesk = 23
number_of deskfault.Moment = 24
number_of deskfault.ShortRandom = 25
number_of deskfault.Full = 26
number_of deskfault.NewerFormat = 27

-- the fault of a call that is not read
abbrev pub call_fault : CallFault → DeskFault
call_fault callfault.Memory = deskfault.Memory
call_fault callfault.Moment = deskfault.Moment

-- the fault of a decision
abbrev pub core_fault : CoreFault → DeskFault
core_fault core.Memory = deskfault.Memory
core_fault core.ShortRandom = deskfault.ShortRandom
core_fault core.Full = deskfault.Full

-- the fault of a store
abbrev pub storage_fault : StorageFault → DeskFault
storage_fault storagefault.Memory = deskfault.Memory
storage_fault storagefault.Device = deskfault.Device
storage_fault storagefault.Reopen = deskfault.Reopen

-- the desk is closed after such a fault
abbrev pub closes : DeskFault → Bool
closes deskfault.Device = true
closes deskfault.Reopen = true
closes _ = false

-- what the model knows of a fault by which a call is declined; out of memory is none of the model's
abbrev pub IsFault : DeskFault → Option ℕ → Type 0
IsFault deskfault.Memory found = Unit {0}
IsFault deskfault.Moment found = found ≡ Some 24
IsFault deskfault.ShortRandom found = found ≡ Some 25
IsFault deskfault.Full found = found ≡ Some 26
IsFault _ found = ⊥
