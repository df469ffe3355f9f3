use Rattle.std.proofs.Common.{sym}
use Rattle.std.specs.Prelude.{codes}
use Rattle.desk_model.specs.Keys.{okp}
use Rattle.keys.proofs.Members.{is_number_of_member, text_of_key}
use Rattle.keys.proofs.jwk.read_okp.Goals as goal

pub new-requires : goal.new-requires
new-requires g c =
    text_of_key _ (okp c.in-Some.x.now) (is_number_of_member (codes "x") (g.V.JsonValue.meaning c.args.value.now) _ (sym c.in-Some.ensures))
    c.in_ok-okp_text.ensures
