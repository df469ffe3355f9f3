use Rattle.std.proofs.Common.{arith}
use Rattle.http_wire.proofs.Lengths.{length_of_all}
use Rattle.http_wire.proofs.body.length_in.Goals as goal

pub returns : goal.returns
returns c = length_of_all c.args.text.now c.loop-b.b-index c.loop-b.number (omega arith) c.loop-b-test.false c.loop-b.invariant.0 c.loop-b.invariant.1
