-- Documents that no other example shows: keys, accounts and an authorization that failed (RFC 8555, 7.1; RFC 7638, 3).
use Rattle.std.specs.Prelude.{◌≡◌, ℕ, List, [], ◌∷◌, ◌++◌, replicate, Some, None, unwrap_or, codes}
use Rattle.serde_json.specs.{Data.Data, Read.read, Written.compact_text}
use Rattle.serde_json.specs.Data as json
use Rattle.desk_model.specs.{Keys.Key, Keys.ec, Keys.rsa, Keys.okp, Keys.canonical_text, Keys.number_member, Keys.IsKeyOf, Document.key_document}
use Rattle.desk_model.specs.declared.call.Target.TheVariants as to
use Rattle.model_examples.specs.Calls.{on, zeros, new_desk, order_desk, default_terms, first_key, request}
use Rattle.model_examples.specs.{Computed.Reads, Entries.issued, Entries.opened, Entries.answered, Entries.reported, Entries.incorrect_response}

-- ---- keys

-- the value that a text holds
abbrev pub value_in : List ℕ → Data
value_in text = unwrap_or (read text) json.null

-- a key is read whatever stands beside its members, and in any order
abbrev pub KeyRead : Type 0
KeyRead = IsKeyOf (value_in (codes "{\"y\":\"Ag\",\"alg\":\"ES256\",\"x\":\"AQ\",\"use\":\"sig\",\"kty\":\"EC\",\"crv\":\"P-256\"}"))
    (ec (codes "P-256") (codes "AQ") (codes "Ag"))

-- the number of this text is no part of a key
abbrev pub IsBadNumber : List ℕ → Type 0
IsBadNumber text = number_member (codes "x") (value_in (codes "{\"x\":\"" ++ (text ++ codes "\"}"))) ≡ None

-- the document of a key is its canonical text
abbrev pub IsOwnDocument : Key → Type 0
IsOwnDocument key = compact_text (key_document (canonical_text key)) ≡ canonical_text key

-- keys and their canonical texts, contacts, and an authorization that failed
pub record DocumentsAreWritten : Type 0 where
  -- ---- keys
  pub key_read : KeyRead
  -- a key of Ed25519 (RFC 8037, 2)
  pub edwards_key_read : IsKeyOf (value_in (codes "{\"x\":\"AQ\",\"kty\":\"OKP\",\"crv\":\"Ed25519\"}")) (okp (codes "AQ"))
  -- its canonical text
  pub edwards_key_text : canonical_text (okp (codes "AQ")) ≡ codes "{\"crv\":\"Ed25519\",\"kty\":\"OKP\",\"x\":\"AQ\"}"
  -- that of an RSA key
  pub rsa_key_text : canonical_text (rsa (codes "AQAB") (codes "0vx7")) ≡ codes "{\"e\":\"AQAB\",\"kty\":\"RSA\",\"n\":\"0vx7\"}"
  -- a number with padding
  pub padded_number : IsBadNumber (codes "AQ=")
  -- no number
  pub empty_number : IsBadNumber []
  -- a number of 4097 characters
  pub long_number : IsBadNumber (replicate 4097 65)
  -- one less
  pub longest_number : number_member (codes "x") (value_in (codes "{\"x\":\"" ++ (replicate 4096 65 ++ codes "\"}"))) ≡ Some (replicate 4096 65)
  -- of an elliptic curve
  pub curve_document : IsOwnDocument (ec (codes "P-521") (codes "AQ_-") (codes "Ag"))
  -- of RSA
  pub rsa_document : IsOwnDocument (rsa (codes "AQAB") (codes "0vx7"))
  -- of Ed25519
  pub edwards_document : IsOwnDocument (okp (codes "AQ"))
  -- ---- accounts and authorizations
  -- contacts stand as they were given, in their order, with what JSON escapes escaped
  pub two_contacts :
      Reads (on 0 (opened first_key ((codes "mailto:b@b") ∷ (codes "mailto:" ++ 34 ∷ codes "a" ++ 34 ∷ codes "@b") ∷ [])) ∷ on 0 (issued (zeros 16)) ∷ new_desk)
      (request (to.Account 1) [])
      (codes "{\"contact\":[\"mailto:b@b\",\"mailto:\\\"a\\\"@b\"],\"orders\":\"https://ca.example/account/1/orders\",\"status\":\"valid\"}")
  -- an authorization that failed shows the challenge that was reported
  pub invalid_authorization :
      Reads (on 0 (reported 2 incorrect_response) ∷ on 0 (answered 2) ∷ on 0 (answered 1) ∷ order_desk default_terms) (request (to.Authz 1) [])
      (codes "{\"challenges\":[{\"error\":{\"detail\":\"the response did not match\",\"status\":403,\"type\":\"urn:ietf:params:acme:error:incorrectResponse\"},\"status\":\"invalid\",\"token\":\"AAAAAAAAAAAAAAAAAAAAAA\",\"type\":\"dns-01\",\"url\":\"https://ca.example/chall/2\"}],\"expires\":\"1970-01-31T00:00:00Z\",\"identifier\":{\"type\":\"dns\",\"value\":\"a.example\"},\"status\":\"invalid\"}")
