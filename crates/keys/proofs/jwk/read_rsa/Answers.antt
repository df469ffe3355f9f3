use Rattle.std.proofs.Common.{sym}
use Rattle.std.specs.Prelude.{codes}
use Rattle.desk_model.specs.Keys.{rsa}
use Rattle.keys.proofs.Members.{is_number_of_member, text_of_key}
use Rattle.keys.proofs.jwk.read_rsa.Goals as goal

pub new-requires : goal.new-requires
new-requires g c =
    let d = g.V.JsonValue.meaning c.args.value.now in
    text_of_key _ (rsa c.in-Some.e.now c.in-Some-number_of.n.now)
    (is_number_of_member (codes "e") d _ (sym c.in-Some.ensures), is_number_of_member (codes "n") d _ (sym c.in-Some-number_of.ensures))
    c.in_ok-rsa_text.ensures
