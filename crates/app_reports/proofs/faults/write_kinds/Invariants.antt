use Rattle.std.proofs.Common.{◌≡◌, drop}
use Rattle.std.specs.List.{flat_map}
use Rattle.store_api.specs.Sight.{ForTables, Unchanged}
use Rattle.store_passes.specs.Left.{faults_of}
use Rattle.app_reports.proofs.{Printing.Writes, Searching.Searches}
use Rattle.app_reports.proofs.faults.write_kinds.Given as goal

abbrev pub invariant-loop-kind : goal.invariant-loop-kind
invariant-loop-kind g l = record {
  unchanged : Unchanged g.K.Kept.sight l.fn.source l.source;
  found : ForTables g.K.Kept.sight l.fn.source l.source (λ T. l.moment ≡ T.meta.counters.clock
      → Searches l.found (flat_map (faults_of T) l.kind-items) (flat_map (faults_of T) (drop l.kind-index l.kind-items)));
  printed : ForTables g.K.Kept.sight l.fn.source l.source (λ T. l.moment ≡ T.meta.counters.clock
      → Writes l.form (g.W.Write.contents l.fn.out) (g.W.Write.contents l.out) (flat_map (faults_of T) l.kind-items)
      (flat_map (faults_of T) (drop l.kind-index l.kind-items)));
}
