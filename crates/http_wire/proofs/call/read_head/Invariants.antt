use Rattle.std.proofs.Common.{◌≡◌, ◌≤◌, ◌-◌, take, length}
use Rattle.std.specs.Io.KnownBytes.{Consumes}
use Rattle.http_wire.specs.Head.{most_fields}
use Rattle.http_wire.proofs.call.read_head.Given as goal
use Rattle.desk_model.specs.Limits.{longest_head}

abbrev pub invariant-loop-filled : goal.invariant-loop-filled
invariant-loop-filled g l =
    (l.filled ≤ length l.buffer) × (length l.buffer ≡ longest_head) × (length l.headers ≡ most_fields)
    × Consumes (g.R.Read.remaining l.fn.reader) (g.R.Read.remaining l.reader) (take l.filled l.buffer)

abbrev pub decreases-loop-filled : goal.decreases-loop-filled
decreases-loop-filled g l = length l.buffer - l.filled
