-- One name to unfold where a definition of the desk is computed on what is written out.
use Rattle.std.specs.{Prelude.⊤, Fmt.digits}
use Rattle.base64.proofs.OnLiterals.{base64_on_literals}
use Rattle.serde_json.proofs.OnLiterals.{serde_json_on_literals}
use Rattle.desk_model.specs.Tokens.{base64url, from_base64url, nonce_in, body_matches, records_match}
use Rattle.desk_model.specs.{Verdict.check, Verdict.given, Verdict.unless_fault, Verdict.choose, Moment.moment_text, Payload.object_in, Keys.key_in}

unfoldable pub computing : ⊤
unfolding digits base64_on_literals serde_json_on_literals check given unless_fault choose base64url from_base64url nonce_in body_matches
    records_match moment_text object_in key_in
computing = tt
