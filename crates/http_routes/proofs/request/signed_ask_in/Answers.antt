use Rattle.std.proofs.Common.{rules, refl}
use Rattle.desk_model.specs.declared.call.Signed.{Signed}
use Rattle.http_routes.specs.Envelopes.{Envelope}
use Rattle.http_routes.proofs.request.signed_ask_in.Goals as goal

pub returns : goal.returns
returns g c =
    let s : Signed = record { target = c.args.target; key = c.in_ok-key.key; nonce = c.in-Some.nonce; payload = c.in_ok-key.payload } in
    let e : Envelope = record { jwk = g.V.JsonValue.meaning c.in-Some-Some.jwk.now; nonce = c.in-Some.nonce; payload = c.in-Some-Some.payload.now } in (
      e,
      s,
      record { jwk = search rules; payload = search rules; nonce = search rules },
      record { target = refl; key = search rules; nonce = refl; payload = search rules },
      refl,
    )
