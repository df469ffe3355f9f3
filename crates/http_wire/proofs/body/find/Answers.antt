use Rattle.std.proofs.Common.{List, ℕ, map, take, subst}
use Rattle.httparse.specs.Spans.{header_bytes}
use Rattle.http_wire.specs.Framing.{FoundIs, values_of}
use Rattle.http_wire.proofs.Fields.{headers_more}
use Rattle.http_wire.proofs.body.find.Goals as goal

pub loop-header-preserved : goal.loop-header-preserved
loop-header-preserved c =
    let P : List (List ℕ × List ℕ) → Type 0 = λ fields. FoundIs (values_of c.args.wanted.now fields) c.and_field-found.result in
    subst P
    (headers_more c.args.buffer.now c.args.headers.now c.loop-header.header-index _ _ _ c.loop-header-test.true c.name_of.ensures c.value_of.ensures)
    (c.and_field-found.ensures (map (header_bytes c.args.buffer.now) (take c.loop-header.header-index c.args.headers.now)) c.loop-header.invariant)
