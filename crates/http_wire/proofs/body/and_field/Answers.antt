use Rattle.std.proofs.Common.{◌≡◌, true, sym, ◌∙◌}
use Rattle.http_wire.specs.Framing.{same_name, values_of}
use Rattle.http_wire.proofs.Fields.{values_snoc}
use Rattle.http_wire.proofs.body.and_field.Goals as goal

pub returns-then-is_called : goal.returns-then-is_called
returns-then-is_called c = λ fields h.
    let yes : same_name c.args.name.now c.args.wanted.now ≡ true = sym c.is_called.ensures ∙ c.if-is_called.true in
    rw (values_snoc c.args.wanted.now fields (c.args.name.now, c.args.value.now), yes) (c.and_one.ensures (values_of c.args.wanted.now fields) h)
