use Rattle.std.proofs.Common.{◌≡◌, ◌-◌, ◌^◌, None}
use Rattle.store_api.specs.Sight.{ForTables, Unchanged}
use Rattle.store_passes.specs.Left.{faults_above, faults_of}
use Rattle.app_reports.proofs.{Printing.Writes, Searching.Searches}
use Rattle.app_reports.proofs.faults.write_kind.Given as goal

abbrev pub invariant-loop-fault : goal.invariant-loop-fault
invariant-loop-fault g l = record {
  name : l.faults.source.ghost_name ≡ l.initial.faults.source.ghost_name;
  unfailed : l.faults.fault ≡ None;
  unchanged : Unchanged g.K.Kept.sight l.fn.source l.faults.source.now;
  found : ForTables g.K.Kept.sight l.fn.source l.faults.source.now (λ T. l.moment ≡ T.meta.counters.clock
      → Searches l.found (faults_of T l.fn.kind) (faults_above T l.faults.kind l.faults.moment l.faults.above));
  printed : ForTables g.K.Kept.sight l.fn.source l.faults.source.now (λ T. l.moment ≡ T.meta.counters.clock
      → Writes l.form (g.W.Write.contents l.fn.out) (g.W.Write.contents l.out) (faults_of T l.fn.kind)
      (faults_above T l.faults.kind l.faults.moment l.faults.above));
}

abbrev pub decreases-loop-fault : goal.decreases-loop-fault
decreases-loop-fault g l = 2 ^ 64 - l.faults.above
