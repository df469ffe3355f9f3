-- The function that finds the nonce of a text, and decoding into 24 bytes.
use Rattle.std.proofs.Common.{◌≡◌, ℕ, take, drop, List, [], ◌++◌, length, refl, ap, ◌∙◌, arith, Option, Some, None, rules}
use Rattle.std.proofs.{lemmas.List.append-nil, lemmas.Bool.Decides.nat_tests}
use Rattle.std.specs.Prelude.{◌==◌, replicate, option_and_then, if◌then◌else◌}
use Rattle.std.specs.{declared.result.Result.Result, declared.result.Result.TheVariants.Ok, declared.result.Result.TheVariants.Err}
use Rattle.base64.specs.GeneralPurpose.{IsBytes, decode_of, decoded_bytes_of, decode_slice_of}
use Rattle.base64.specs.{declared.decode.DecodeError.DecodeError, Engines.url_safe_no_pad}
use Rattle.base64.proofs.EngineFacts.{decode_of_strict}
use Rattle.desk_model.specs.Tokens.{NonceText, base64url, from_base64url, nonce_in, number_from}
use Rattle.keys.proofs.Nonces.{decodes_whole, length-base64url, slice_of_decode}

-- the nonce of what a text decodes to, and of the outcome of decoding
abbrev nonce_by : Option (List ℕ) → Option NonceText
nonce_by o = option_and_then (λ bytes. if length bytes == 24 then Some (record { serial = number_from 0 (take 8 bytes); random = drop 8 bytes }) else None) o

-- the nonce of the outcome of decoding
abbrev nonce_of_outcome : Result (List ℕ) DecodeError → Option NonceText
nonce_of_outcome r = nonce_by (elim r [ Ok bytes ↦ Some bytes | Err e ↦ None ])

-- 24 bytes have a nonce
of_24 : (bytes : List ℕ) → length bytes ≡ 24 → nonce_by (Some bytes) ≡ Some (record { serial = number_from 0 (take 8 bytes); random = drop 8 bytes })
of_24 bytes len = rw len refl

-- the nonce of a text that decodes to 24 bytes
pub nonce_in-decoded : (s bytes : List ℕ) → decode_of url_safe_no_pad s ≡ Ok bytes → length bytes ≡ 24
    → nonce_in s ≡ Some (record { serial = number_from 0 (take 8 bytes); random = drop 8 bytes })
unfolding nonce_in from_base64url
nonce_in-decoded s bytes e len = ap nonce_of_outcome e ∙ of_24 bytes len

-- what was written is the nonce of the text
pub nonce_in-written : (s new : List ℕ) → decode_slice_of url_safe_no_pad s 24 ≡ Ok 24
    → new ≡ decoded_bytes_of url_safe_no_pad s ++ drop {A = ℕ} (length (decoded_bytes_of url_safe_no_pad s)) (replicate 24 0)
    → nonce_in s ≡ Some (record { serial = number_from 0 (take 8 new); random = drop 8 new })
nonce_in-written s new h written =
    let p = decodes_whole url_safe_no_pad s 24 24 h in
    let none : drop {A = ℕ} (length (decoded_bytes_of url_safe_no_pad s)) (replicate 24 0) ≡ [] = rw p.1 refl in
    let same : new ≡ decoded_bytes_of url_safe_no_pad s = written ∙ rw (none, append-nil) refl in
    rw same (nonce_in-decoded s (decoded_bytes_of url_safe_no_pad s) p.0 p.1)

-- where there is a nonce, the text decodes to 24 bytes
decodes : (s : List ℕ) (r : Result (List ℕ) DecodeError) → decode_of url_safe_no_pad s ≡ r → (n : NonceText) → nonce_of_outcome r ≡ Some n
    → (bytes : List ℕ) × (decode_of url_safe_no_pad s ≡ Ok bytes) × (length bytes ≡ 24)
decodes s r h n k = grind (arith, nat_tests)

-- a text with a nonce decodes into 24 bytes
pub nonce_in-decodes : (s : List ℕ) (n : NonceText) → IsBytes s → nonce_in s ≡ Some n → decode_slice_of url_safe_no_pad s 24 ≡ Ok 24
unfolding nonce_in from_base64url base64url
nonce_in-decodes s n low h =
    let d = decodes s (decode_of url_safe_no_pad s) refl n h in
    let text : s ≡ base64url d.0 = decode_of_strict url_safe_no_pad s d.0 (refl, refl) low d.1 in
    let len : length s ≡ 32 = ap length text ∙ length-base64url d.0 d.2 in
    slice_of_decode url_safe_no_pad s d.0 24 d.1 (rw len refl) (rw d.2 refl) ∙ ap (λ n. Ok n) d.2

-- a text that does not decode into 24 bytes has no nonce
pub no_nonce_in : (s : List ℕ) → IsBytes s → (decode_slice_of url_safe_no_pad s 24 ≡ Ok 24 → ⊥) → nonce_in s ≡ None
no_nonce_in s low other = search (rules, nonce_in-decodes)
