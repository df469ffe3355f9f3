-- The faults of commands, by what they come from.
use Rattle.std.specs.Prelude.{◌≡◌, ◌⊎◌}
use Rattle.app_tasks.specs.declared.fault.Fault.{Fault}
use Rattle.app_tasks.specs.declared.fault.Fault.TheVariants as fault
use Rattle.desk.specs.{Faults.storage_fault, declared.fault.DeskFault.DeskFault}
use Rattle.desk.specs.declared.fault.DeskFault.TheVariants as deskfault
use Rattle.app_reports.specs.declared.fault.ReportFault.{ReportFault}
use Rattle.app_reports.specs.declared.fault.ReportFault.TheVariants as reportfault

-- the fault of a command whose desk has this one
abbrev pub IsOfDesk : DeskFault → Fault → Type 0
IsOfDesk cause f = f ≡ fault.Desk cause

-- what a look at the log of a desk fails by
abbrev pub IsOfLog : DeskFault → Type 0
IsOfLog why = (why ≡ deskfault.Memory) ⊎ (why ≡ deskfault.Device)

-- the fault of a report
abbrev pub report_fault : ReportFault → Fault
report_fault (reportfault.Storage why) = fault.Desk (storage_fault why)
report_fault reportfault.Output = fault.Output
