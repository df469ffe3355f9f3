use Rattle.std.proofs.Common.{sym}
use Rattle.std.specs.Prelude.{codes}
use Rattle.desk_model.specs.Keys.{ec}
use Rattle.keys.proofs.Members.{is_number_of_member, text_of_key}
use Rattle.keys.proofs.jwk.read_ec.Goals as goal

pub new-requires : goal.new-requires
new-requires g c =
    let d = g.V.JsonValue.meaning c.args.value.now in
    let x = c.in-Some-number_of.x.now in
    let y = c.in-Some-number_of-2.y.now in
    text_of_key _ (ec c.in-Some.crv.now x y) (
      c.is_curve.ensures.0 c.if-not-is_curve.false,
      is_number_of_member (codes "x") d x (sym c.in-Some-number_of.ensures),
      is_number_of_member (codes "y") d y (sym c.in-Some-number_of-2.ensures),
    )
    c.in_ok-ec_text.ensures
