use Rattle.std.proofs.Common.{◌≡◌, take}
use Rattle.std.specs.Str.Parse.{AllDigits, digits_value}
use Rattle.http_wire.specs.Framing.{saturated}
use Rattle.http_wire.proofs.body.length_in.Given as goal

abbrev pub invariant-loop-b : goal.invariant-loop-b
invariant-loop-b l = AllDigits 10 (take l.b-index l.text) × (l.number ≡ saturated (digits_value 10 (take l.b-index l.text)))
