use Rattle.std.proofs.Common.{take, map}
use Rattle.httparse.specs.Spans.{header_bytes}
use Rattle.http_wire.specs.Framing.{FoundIs, values_of}
use Rattle.http_wire.proofs.body.find.Given as goal

abbrev pub invariant-loop-header : goal.invariant-loop-header
invariant-loop-header l = FoundIs (values_of l.wanted (map (header_bytes l.buffer) (take l.header-index l.headers))) l.found
