use Rattle.std.proofs.{Common.◌≡◌, Common.List, Common.ℕ, Common.sym, Common.◌∙◌, Common.ap, lemmas.Result.IfOk-weaker}
use Rattle.std.specs.Prelude.{codes, Some}
use Rattle.serde_json.specs.Data.{Data}
use Rattle.desk_model.specs.Keys.{Key, ec, rsa, okp, text_member, IsEc, IsKeyOf}
use Rattle.keys.proofs.jwk.read_jwk.Goals as goal

no_ec : (d : Data) → text_member (codes "kty") d ≡ Some (codes "EC") → ((crv x y : List ℕ) → IsEc d crv x y → ⊥) → (k : Key) → IsKeyOf d k → ⊥
no_ec d kty none (ec crv x y) h = none crv x y h.1
no_ec d kty none (rsa e n) h = let other = h.0 in cc (kty, other)
no_ec d kty none (okp x) h = let other = h.0 in cc (kty, other)

pub returns-then-is_same_text-clause-key : goal.returns-then-is_same_text-clause-key
returns-then-is_same_text-clause-key g c =
    let kty = sym c.in-Some.ensures ∙ ap Some (c.is_same_text.ensures.same.0 c.if-is_same_text.true) in
    IfOk-weaker c.read_ec.result _ _ (λ j h. (ec h.0 h.1 h.2, (kty, h.3), h.4)) c.read_ec.ensures.key

pub returns-then-is_same_text-clause-bad : goal.returns-then-is_same_text-clause-bad
returns-then-is_same_text-clause-bad g c = λ e.
    let kty = sym c.in-Some.ensures ∙ ap Some (c.is_same_text.ensures.same.0 c.if-is_same_text.true) in
    no_ec (g.V.JsonValue.meaning c.args.value.now) kty (c.read_ec.ensures.bad e)

pub returns-then-is_same_text-2-clause-key : goal.returns-then-is_same_text-2-clause-key
returns-then-is_same_text-2-clause-key g c =
    let kty = sym c.in-Some.ensures ∙ ap Some (c.is_same_text-else-is_same_text.ensures.same.0 c.if-is_same_text-2.true) in
    IfOk-weaker c.read_rsa.result _ _ (λ j h. (rsa h.0 h.1, (kty, h.2), h.3)) c.read_rsa.ensures.key

pub returns-then-is_same_text-3-clause-key : goal.returns-then-is_same_text-3-clause-key
returns-then-is_same_text-3-clause-key g c =
    let kty = sym c.in-Some.ensures ∙ ap Some (c.is_same_text-else-is_same_text-2.ensures.same.0 c.if-is_same_text-3.true) in
    IfOk-weaker c.read_okp.result _ _ (λ j h. (okp h.0, (kty, h.1), h.2)) c.read_okp.ensures.key
