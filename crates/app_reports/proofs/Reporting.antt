-- What a report reads, call by call.
use Rattle.std.proofs.Common.{◌≡◌, Result, Ok, Err, IsErrAnd, arith}
use Rattle.store_api.specs.{Sight.IsCaused, Sight.LeavesUnchanged, Sight.Reads, Sight.Sight, Sight.Unchanged, declared.fault.StorageFault.StorageFault}
use Rattle.store_api.proofs.Readings.{unchanged_both}
use Rattle.app_reports.specs.{Reported.IsCause, Reported.Reports, declared.fault.ReportFault.ReportFault}
use Rattle.app_reports.specs.declared.fault.ReportFault.TheVariants as fault

module _ {S C : Type 0} {v : Sight S C} where
  -- what was reported stands
  pub unchanged_reported : {A : Type 0} {old new : S} {a : A} → Reports v old new (Ok a) → Unchanged v old new
  unchanged_reported r = record { honest = r.honest; left = r.left; tables = r.tables }

  -- and what stands was reported
  pub reports_unchanged : {A : Type 0} {old new : S} {a : A} → Unchanged v old new → Reports v old new (Ok a)
  reports_unchanged s = record { honest = s.honest; left = s.left; tables = s.tables; after_fault = tt; failed = λ honest T held. tt }

  -- a cause, behind what stands
  cause_later : {old mid : S} (new : S) (why : ReportFault) → Unchanged v old mid → IsCause v mid new why → IsCause v old new why
  cause_later new why unchanged is = grind (arith, unchanged_both)

  -- a report behind what stands
  pub reports_then : {A : Type 0} {old mid new : S} (r : Result A ReportFault) → Unchanged v old mid → Reports v mid new r → Reports v old new r
  reports_then {A} {old} {mid} {new} (Ok a) unchanged it = reports_unchanged (unchanged_both unchanged (unchanged_reported it))
  reports_then {A} {old} {mid} {new} (Err why) unchanged it = record {
    honest = λ honest. unchanged.honest (it.honest honest);
    left = λ honest c may. unchanged.left (it.honest honest) c (it.left honest c may);
    tables = tt;
    after_fault = λ leaves honest T held. it.after_fault leaves honest T (unchanged.tables (it.honest honest) T held);
    failed = λ honest T held. cause_later new why unchanged (it.failed honest T (unchanged.tables (it.honest honest) T held));
  }

  -- a look-up that changed nothing and failed for a cause of the tables
  pub reads_caused : {A : Type 0} {old new : S} (r : Result A StorageFault) → LeavesUnchanged v old new r → IsCaused v old new r → Reads v old new r
  reads_caused r it by = grind arith

  -- its fault, passed on
  pub report_failed : {A B : Type 0} {old mid new : S} {why : ReportFault} (r : Result A ReportFault) → Unchanged v old mid
      → Reports v {R = B} mid new (Err why) → IsErrAnd r (λ e. e ≡ why) → Reports v old new r
  report_failed r unchanged it failed = grind (arith, reports_then)

  -- the fault of a look-up as one of a report
  look_up_fault : {A B : Type 0} {old new : S} (why : StorageFault) → Reads v {R = B} old new (Err why)
      → Reports v {R = A} old new (Err (fault.Storage why))
  look_up_fault why it = grind arith

  -- that of a look-up behind what stands
  pub look_up_failed : {A B : Type 0} {old mid new : S} {why : StorageFault} (r : Result A ReportFault) → Unchanged v old mid
      → Reads v {R = B} mid new (Err why) → IsErrAnd r (λ e. e ≡ fault.Storage why) → Reports v old new r
  look_up_failed {A} {B} {old} {mid} {new} {why} r unchanged it failed = grind (arith, report_failed, look_up_fault)
