-- What the faults of a call come from, over a store of which this is so before and after a call of its own that failed.
use Rattle.std.specs.Prelude.{Option}
use Rattle.store_api.specs.{Sight.Sight, Sight.Unchanged, Storing.Causes, Storing.Saving, declared.fault.StorageFault.StorageFault}
use Rattle.store_api.specs.declared.fault.StorageFault.TheVariants as storagefault
use Rattle.desk.specs.declared.fault.DeskFault.{DeskFault}
use Rattle.desk.specs.declared.fault.DeskFault.TheVariants as deskfault

module _ {S C : Type 0} (v : Sight S C) (causes : Causes S) where
  -- the store failed by this fault, at once or behind look-ups that changed nothing: in a look-up, or in a saving
  pub record FailsBehind (old new : S) (why : StorageFault) : Type 0 where
    pub from : S
    pub unchanged : Unchanged v old from
    pub saving : Option Saving
    pub cause : causes saving from new why

  -- a fault that closes the desk is one by which its store failed; that memory was refused may come of the decision alone
  abbrev pub IsCaused : S → S → DeskFault → Type 0
  IsCaused old new deskfault.Device = FailsBehind old new storagefault.Device
  IsCaused old new deskfault.Reopen = FailsBehind old new storagefault.Reopen
  IsCaused old new _ = Unit {0}
