use Rattle.std.proofs.Common.{◌≡◌, ◌≤◌, ◌-◌, ◌^◌}
use Rattle.store_api.specs.Sight.{ForTables, Unchanged}
use Rattle.store_passes.specs.{InOrder.IsInOrder, Left.faults_above}
use Rattle.store_passes.proofs.status_faults.StatusFaults.advance.Given as goal

abbrev pub invariant-loop-checked : goal.invariant-loop-checked
invariant-loop-checked g l = record {
  name : l.self.source.ghost_name ≡ l.fn.self.source.ghost_name;
  kind : l.self.kind ≡ l.fn.self.kind;
  moment : l.self.moment ≡ l.fn.self.moment;
  unfailed : l.self.fault ≡ l.fn.self.fault;
  onward : l.fn.self.above ≤ l.self.above;
  unchanged : Unchanged g.S.Kept.sight l.fn.self.source.now l.self.source.now;
  found : ForTables g.S.Kept.sight l.fn.self.source.now l.self.source.now (λ T. IsInOrder T
      → faults_above T l.fn.self.kind l.fn.self.moment l.fn.self.above ≡ faults_above T l.fn.self.kind l.fn.self.moment l.self.above);
}

abbrev pub decreases-loop-checked : goal.decreases-loop-checked
decreases-loop-checked g l = 2 ^ 64 - l.self.above
