-- Which findings match what a challenge asks for, and which texts are nonces (RFC 8555, 6.5, 8.3, 8.4).
use Rattle.std.specs.Prelude.{◌≡◌, ◌^◌, [], ◌∷◌, ◌++◌, replicate, true, false, Some, None, codes}
use Rattle.desk_model.specs.Tokens.{nonce_text, nonce_in, token_text, body_matches, records_match, from_base64url}
use Rattle.model_examples.specs.Calls.{zeros, nonce_two}

-- which findings match, and which texts are nonces
pub record FindingsAreMatched : Type 0 where
  -- a body with a line end behind the expected text
  pub line_end : body_matches (codes "t.k" ++ (13 ∷ 10 ∷ [])) (codes "t.k") ≡ true
  -- spaces and tabs too
  pub blanks : body_matches (codes "t.k" ++ (32 ∷ 9 ∷ [])) (codes "t.k") ≡ true
  -- a space in front
  pub space_in_front : body_matches (codes " t.k") (codes "t.k") ≡ false
  -- a beginning of the expected text
  pub beginning : body_matches (codes "t.") (codes "t.k") ≡ false
  -- more than the expected text
  pub more_text : body_matches (codes "t.k k") (codes "t.k") ≡ false
  -- the empty body
  pub empty_body : body_matches [] (codes "t.k") ≡ false
  -- one of the records
  pub one_record : records_match (codes "x" ∷ codes "t.k" ∷ []) (codes "t.k") ≡ true
  -- no records
  pub no_records : records_match [] (codes "t.k") ≡ false
  -- nothing is taken off a record
  pub record_with_space : records_match (codes "t.k " ∷ []) (codes "t.k") ≡ false
  -- ---- nonces and base64url
  -- a nonce by its text
  pub nonce_read : nonce_in nonce_two ≡ Some (record { serial = 2; random = zeros 16 })
  -- the last serial, and bytes of ones
  pub last_nonce : nonce_text (2 ^ 62) (replicate 16 255) ≡ codes "QAAAAAAAAAD_____________________"
  -- read again
  pub last_nonce_read : nonce_in (codes "QAAAAAAAAAD_____________________") ≡ Some (record { serial = 2 ^ 62; random = replicate 16 255 })
  -- 31 characters
  pub short_nonce_text : nonce_in (replicate 31 65) ≡ None
  -- 33 characters
  pub long_nonce_text : nonce_in (replicate 33 65) ≡ None
  -- a character of the other alphabet
  pub other_alphabet : nonce_in (codes "AAAAAAAAAAIAAAAAAAAAAAAAAAAAAAA+") ≡ None
  -- the text of a token of ones
  pub token_text : token_text (replicate 16 255) ≡ codes "_____________________w"
  -- unused bits at the end are zero
  pub unused_bits : from_base64url (codes "AR") ≡ None
  -- there is no padding
  pub padding : from_base64url (codes "AQ==") ≡ None
