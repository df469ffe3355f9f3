use Rattle.std.proofs.Common.{rules, ◌+◌, List, [], ◌∷◌, drop, get_or, subst, sym}
use Rattle.std.proofs.lemmas.List.{at_drop_more}
use Rattle.std.specs.List.{flat_map}
use Rattle.store_passes.specs.{Left.faults_of, declared.fault_kind.FaultKind.FaultKind}
use Rattle.store_passes.specs.declared.fault_kind.FaultKind.TheVariants.{Account, Order, Authorization, Challenge}
use Rattle.app_reports.proofs.Searching.{Searches, turn_found, turn_passed}
use Rattle.app_reports.proofs.{Printing.writes_part, faults.write_kinds.Goals.then-branch, faults.write_kinds.Goals.else-branch}
use Rattle.app_reports.proofs.faults.write_kinds.Goals as goal

-- all kinds
abbrev kinds : List FaultKind
kinds = Account ∷ Order ∷ Authorization ∷ Challenge ∷ []

-- the next kind
pub loop-kind-preserved : goal.loop-kind-preserved
loop-kind-preserved g c = record {
  unchanged = search rules;
  found = λ honest T holds now.
      let before = c.in_ok-write_kind.ensures.reads.honest honest in
      let here = c.in_ok-write_kind.ensures.found honest T (c.loop-kind.invariant.unchanged.tables before T holds) now in
      let so_far = c.loop-kind.invariant.found before T holds now in
      elim c.if-branch.branch [
        | then-branch w ↦ subst (λ f. Searches f (flat_map (faults_of T) kinds) (flat_map (faults_of T) (drop (c.loop-kind.kind-index + 1) kinds)))
            (sym w.found-is) (turn_found (faults_of T) kinds c.loop-kind.kind-index Account c.loop-kind.found c.loop-kind-test.true so_far
            (here.0 w.if-branch.true))
        | else-branch w ↦ subst (λ f. Searches f (flat_map (faults_of T) kinds) (flat_map (faults_of T) (drop (c.loop-kind.kind-index + 1) kinds)))
            (sym w.found-is) (turn_passed (faults_of T) kinds c.loop-kind.kind-index Account c.loop-kind.found c.loop-kind-test.true so_far
            (λ some. cc (here.1 some, w.if-branch.false)))
      ];
  printed = λ honest T holds now.
      let before = c.in_ok-write_kind.ensures.reads.honest honest in
      let here = c.in_ok-write_kind.ensures.printed honest T (c.loop-kind.invariant.unchanged.tables before T holds) now in
      writes_part c.args.form _ _ _ (flat_map (faults_of T) kinds) (flat_map (faults_of T) (drop c.loop-kind.kind-index kinds))
      (faults_of T (get_or kinds c.loop-kind.kind-index Account)) (flat_map (faults_of T) (drop (c.loop-kind.kind-index + 1) kinds))
      (c.loop-kind.invariant.printed before T holds now) (at_drop_more (flat_map (faults_of T)) kinds c.loop-kind.kind-index Account c.loop-kind-test.true)
      here;
}
