-- A look at a desk, by the report that it makes.
use Rattle.std.proofs.Common.{◌≡◌, Ok, Err, OnOk, Result, subst, sym}
use Rattle.app_reports.specs.{Reported.Reports, declared.fault.ReportFault.ReportFault}
use Rattle.app_reports.specs.declared.fault.ReportFault.TheVariants as reportfault
use Rattle.app_tasks.specs.Showing.{look_ended}
use Rattle.desk.specs.{Looking.Looks, declared.looking.LookFault.LookFault}
use Rattle.desk_model.specs.Tables.{Tables}
use Rattle.store_api.specs.Sight.{ForTables, Sight}
use Rattle.store_api.specs.declared.fault.StorageFault.TheVariants as storagefault

module _ {S C : Type 0} (v : Sight S C) {R : Type 0} (old new : S) where
  -- a report changed nothing, and so did the look
  looks : (report : Result R ReportFault) → Reports v old new report → Looks v old new (look_ended report)
  looks (Ok done) it = record { honest = it.honest; left = it.left; tables = it.tables; after_fault = tt }
  looks (Err reportfault.Output) it = record { honest = it.honest; left = it.left; tables = tt; after_fault = λ opens. it.after_fault tt }
  looks (Err (reportfault.Storage storagefault.Memory)) it =
      record { honest = it.honest; left = it.left; tables = tt; after_fault = λ opens. it.after_fault tt }
  looks (Err (reportfault.Storage storagefault.Device)) it =
      record { honest = it.honest; left = it.left; tables = tt; after_fault = λ opens. absurd (cc opens) }
  looks (Err (reportfault.Storage storagefault.Reopen)) it =
      record { honest = it.honest; left = it.left; tables = tt; after_fault = λ opens. absurd (cc opens) }

  -- the whole of it is the whole report
  shown : (report : Result R ReportFault) (P : Tables → Type 0) → ForTables v old new (λ T. OnOk report (P T))
      → ForTables v old new (λ T. OnOk (look_ended report) (P T))
  shown (Ok done) P it = it
  shown (Err why) P it = λ h T has. tt

  -- the same of a look that ends as the report
  pub looks_by : (report : Result R ReportFault) (look : Result Unit LookFault) → look ≡ look_ended report → Reports v old new report
      → Looks v old new look
  looks_by report look ends it = subst (λ l. Looks v old new l) (sym ends) (looks report it)

  -- what is so of a report is so of the look that it ends
  pub shown_by : (report : Result R ReportFault) (look : Result Unit LookFault) → look ≡ look_ended report → (P : Tables → Type 0)
      → ForTables v old new (λ T. OnOk report (P T)) → ForTables v old new (λ T. OnOk look (P T))
  shown_by report look ends P it = subst (λ l. ForTables v old new (λ T. OnOk l (P T))) (sym ends) (shown report P it)
