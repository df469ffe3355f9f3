use Rattle.std.proofs.Common.{drop}
use Rattle.app_page.proofs.Writing.{WritesUpTo}
use Rattle.app_tasks.specs.Metrics.{fault_text}
use Rattle.app_tasks.proofs.metrics.write_faults.Given as goal

abbrev pub invariant-loop-number : goal.invariant-loop-number
invariant-loop-number g l =
    WritesUpTo (fault_text l.served) (g.W.Write.contents l.fn.out) (g.W.Write.contents l.out) l.number-items (drop l.number-index l.number-items)
