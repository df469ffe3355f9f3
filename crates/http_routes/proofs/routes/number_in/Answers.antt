use Rattle.std.proofs.Common.{arith}
use Rattle.http_routes.proofs.Numbers.{parsed_is_number}
use Rattle.http_routes.proofs.routes.number_in.Goals as goal

pub returns-then-number-le-LAST_NUMBER : goal.returns-then-number-le-LAST_NUMBER
returns-then-number-le-LAST_NUMBER c =
    let begins = c.begins_a_number.ensures.0 c.if-not-begins_a_number.false in
    parsed_is_number c.args.text.now c.in-Ok.number c.parse.result c.parse.ensures.value.0 (rw c.as_bytes.ensures.value at begins) c.in-Ok.is (omega arith)
