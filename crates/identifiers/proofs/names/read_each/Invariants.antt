use Rattle.std.proofs.Common.{◌≡◌, []}
use Rattle.identifiers.proofs.NamesRead.{AreFound}
use Rattle.identifiers.proofs.names.read_each.Given as goal

abbrev pub invariant-loop-identifier : goal.invariant-loop-identifier
invariant-loop-identifier l =
    l.fn.read.names.items ≡ [] → l.fn.read.faulty.items ≡ [] → AreFound l.identifiers l.identifier-index l.read.faulty.items l.read.names.items
