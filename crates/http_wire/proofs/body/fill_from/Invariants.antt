use Rattle.std.proofs.Common.{◌≡◌, ◌≤◌, ◌-◌, take, length}
use Rattle.http_wire.specs.Head.{Adds}
use Rattle.http_wire.proofs.body.fill_from.Given as goal

abbrev pub invariant-loop-filled : goal.invariant-loop-filled
invariant-loop-filled g l =
    (l.filled ≤ length l.buffer) × (length l.buffer ≡ length l.fn.buffer)
    × Adds (g.R.Read.remaining l.fn.reader) (g.R.Read.remaining l.reader) (take l.start l.fn.buffer) (take l.filled l.buffer)

abbrev pub decreases-loop-filled : goal.decreases-loop-filled
decreases-loop-filled g l = length l.buffer - l.filled
