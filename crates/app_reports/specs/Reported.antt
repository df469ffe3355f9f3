-- What a report does to the store whose rows it reads.
use Rattle.std.specs.Prelude.{◌≡◌, ◌⊎◌, Result, OnOk, IfErr, ⊤}
use Rattle.store_api.specs.Sight.{FailsBy, ForTables, HasStill, Sight}
use Rattle.store_api.specs.declared.fault.StorageFault.TheVariants as cause
use Rattle.app_reports.specs.declared.fault.ReportFault.{ReportFault}
use Rattle.app_reports.specs.declared.fault.ReportFault.TheVariants as fault

-- a fault after which the rows are still in reach
abbrev pub LeavesRows : ReportFault → Type 0
LeavesRows fault.Output = ⊤
LeavesRows (fault.Storage cause.Memory) = ⊤
LeavesRows (fault.Storage cause.Device) = ⊥
LeavesRows (fault.Storage cause.Reopen) = ⊥

module _ {S C : Type 0} (v : Sight S C) where
  -- why a report failed: the writer did, memory was refused, or what keeps the tables failed in a look-up
  abbrev pub IsCause : S → S → ReportFault → Type 0
  IsCause old new fault.Output = ⊤
  IsCause old new (fault.Storage why) = (why ≡ cause.Memory) ⊎ FailsBy v old new why

  -- a report changed nothing, and of tables failed only so; after a fault other than these the rows may be out of reach
  pub record Reports {R : Type 0} (old new : S) (result : Result R ReportFault) : Type 0 where
    pub honest : v.is_honest new → v.is_honest old
    pub left : v.is_honest new → (c : C) → v.leaves new c → v.leaves old c
    pub tables : OnOk result (HasStill v old new)
    pub after_fault : IfErr result (λ why. LeavesRows why → HasStill v old new)
    pub failed : ForTables v old new (λ T. IfErr result (IsCause old new))
