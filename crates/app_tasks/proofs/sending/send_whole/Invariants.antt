use Rattle.std.proofs.Common.{◌≡◌, length}
use Rattle.app_tasks.specs.Sending.{Moves}
use Rattle.app_tasks.proofs.sending.send_whole.Given as goal

abbrev pub invariant-loop-left : goal.invariant-loop-left
invariant-loop-left g l =
    (length l.piece ≡ 65536)
    × Moves (g.R.Read.remaining l.fn.reader) (g.R.Read.remaining l.reader) (g.W.Write.contents l.fn.out) (g.W.Write.contents l.out) l.length l.left

abbrev pub decreases-loop-left : goal.decreases-loop-left
decreases-loop-left g l = l.left
