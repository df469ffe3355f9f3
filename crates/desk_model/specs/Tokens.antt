-- The texts of nonces and tokens (RFC 8555, 6.5, 8), and the answers that challenges ask for (8.1, 8.3, 8.4).
use Rattle.std.specs.Prelude.{◌≡◌, ℕ, ◌+◌, ◌*◌, Bool, ◌||◌, ◌==◌, List, [], ◌∷◌, ◌++◌, length, take, drop, take_while, reverse, Option, Some, None, Ok, Err}
use Rattle.std.specs.Prelude.{IsTrue, All, bytes_eq, option_and_then, if◌then◌else◌}
use Rattle.std.specs.{Int.w64, Int.to_be_bytes, List.list_any}
use Rattle.base64.specs.{Engines.url_safe_no_pad, GeneralPurpose.encode_of, GeneralPurpose.decode_of}
use Rattle.sha2.specs.Sha256.{sha256}

-- base64 in the URL-safe alphabet without padding
unfoldable pub base64url : List ℕ → List ℕ
base64url bytes = encode_of url_safe_no_pad bytes

-- the bytes of such a text, read strictly
unfoldable pub from_base64url : List ℕ → Option (List ℕ)
from_base64url text = elim (decode_of url_safe_no_pad text) [ Ok bytes ↦ Some bytes | Err e ↦ None ]

-- the text of a nonce: its serial, high byte first, and its random bytes
abbrev pub nonce_text : ℕ → List ℕ → List ℕ
nonce_text serial random = base64url (to_be_bytes w64 serial ++ random)

pub record NonceText : Type 0 where
  pub serial : ℕ
  pub random : List ℕ

-- the number that these bytes write after those before, high byte first
abbrev pub number_from : ℕ → List ℕ → ℕ
number_from high [] = high
number_from high (b ∷ bs) = number_from (256 * high + b) bs

-- the serial and the 16 random bytes that a text spells
unfoldable pub nonce_in : List ℕ → Option NonceText
nonce_in text =
    option_and_then
    (λ bytes. if length bytes == 24 then Some (record { serial = number_from 0 (take 8 bytes); random = drop 8 bytes }) else None)
    (from_base64url text)

-- the text of a token of 16 bytes
abbrev pub token_text : List ℕ → List ℕ
token_text token = base64url token

-- the key authorization of a token's text under a thumbprint (8.1)
abbrev pub authorization_of : List ℕ → List ℕ → List ℕ
authorization_of token thumb = token ++ 46 ∷ base64url thumb

-- what a TXT record has to hold for a key authorization (8.4)
abbrev pub dns_value_of : List ℕ → List ℕ
dns_value_of authorization = base64url (sha256 authorization)

-- a space, a tab, a carriage return or a line feed
abbrev pub is_blank : ℕ → Bool
is_blank c = c == 32 || (c == 9 || (c == 13 || c == 10))

-- the body is the expected text with nothing but blanks after it, and the expected text does not end in one (8.3)
pub record IsBodyMatch (body expected : List ℕ) : Type 0 where
  pub blanks : List ℕ
  pub whole : body ≡ expected ++ blanks
  pub all_blank : All (λ c. IsTrue (is_blank c)) blanks
  pub trimmed : (front : List ℕ) (c : ℕ) → expected ≡ front ++ c ∷ [] → IsTrue (is_blank c) → ⊥

-- the text without the blanks at its end
abbrev pub without_blanks : List ℕ → List ℕ
without_blanks text = reverse (drop (length (take_while is_blank (reverse text))) (reverse text))

unfoldable pub body_matches : List ℕ → List ℕ → Bool
body_matches body expected = bytes_eq (without_blanks body) expected

-- one of the records is the expected text (8.4)
unfoldable pub records_match : List (List ℕ) → List ℕ → Bool
records_match records expected = list_any (λ r. bytes_eq r expected) records
