use Rattle.store_passes.proofs.Passing.{fails_then}
use Rattle.store_passes.proofs.listed.add_listed.Goals as goal

pub returns-in_err-push_numbered-clause-reads : goal.returns-in_err-push_numbered-clause-reads
returns-in_err-push_numbered-clause-reads g c =
    fails_then _ c.loop-place.invariant.unchanged c.in_err-push_numbered.ensures.reads c.from_residual.ensures.1
