-- Decoding into 24 bytes is the inverse of the text of a nonce.
use Rattle.std.proofs.Common.{◌≡◌, ℕ, drop, ◌*◌, ◌/◌, Bool, false, List, ◌++◌, length, refl, ap, ◌∙◌, Option, None, rules}
use Rattle.std.proofs.lemmas.List.{append-nil}
use Rattle.std.specs.{Prelude.nat_lt, Prelude.replicate, Prelude.if◌then◌else◌, declared.result.Result.Result, declared.result.Result.TheVariants.Ok}
use Rattle.std.specs.{declared.result.Result.TheVariants.Err, Int.w64, Int.to_be_bytes}
use Rattle.base64.specs.Decode.{or_error, or_else, bytes_fit, lone_error, groups_error, suffix_error, decode_outcome, groups_before_last}
use Rattle.base64.specs.GeneralPurpose.{IsBytes, decode_of, decoded_bytes_of, decode_slice_of}
use Rattle.base64.specs.{declared.engine.general_purpose.GeneralPurpose.GeneralPurpose, Engines.url_safe_no_pad}
use Rattle.base64.specs.declared.decode.{DecodeError.DecodeError, DecodeSliceError.DecodeSliceError, DecodeSliceError.TheVariants.OutputSliceTooSmall}
use Rattle.base64.proofs.{EngineFacts.decode_of-encode_of, EngineFacts.decode_of_strict, RoundTrip.length-encode_symbols}
use Rattle.desk_model.specs.Tokens.{base64url, nonce_text}

-- a decoding into a slice that succeeds meets no error
settled : (l m : Option DecodeError) (b : Bool) (k out n : ℕ)
    → or_error l (if b then Err OutputSliceTooSmall else or_error m (bytes_fit k out)) ≡ Ok n → (or_else l m ≡ None) × (k ≡ n)
settled l m b k out n h = search rules

-- a decoding that fits succeeds into a slice
unsettled : (l m : Option DecodeError) (t : Bool) (d b : List ℕ) (out : ℕ) → decode_outcome (or_else l m) d ≡ Ok b → t ≡ false
    → nat_lt out (length b) ≡ false → or_error l (if t then Err OutputSliceTooSmall else or_error m (bytes_fit (length d) out)) ≡ Ok (length b)
unsettled l m t d b out h k g = search rules

-- the parts of what decoding looks at
abbrev lone : GeneralPurpose → List ℕ → Option DecodeError
lone e s = lone_error e.decode_table e.padding.value s

-- the errors of the groups and of what follows them
abbrev later : GeneralPurpose → List ℕ → Option DecodeError
later e s =
    or_else (groups_error e.decode_table s (groups_before_last (length s)))
    (suffix_error e.decode_table e.padding.value e.config.decode_allow_trailing_bits e.config.decode_padding_mode (4 * groups_before_last (length s)) s)

-- a decoding into a slice is a decoding
pub decodes_whole : (e : GeneralPurpose) (s : List ℕ) (out n : ℕ) → decode_slice_of e s out ≡ Ok n
    → (decode_of e s ≡ Ok (decoded_bytes_of e s)) × (length (decoded_bytes_of e s) ≡ n)
decodes_whole e s out n h =
    let p = settled (lone e s) (later e s) (nat_lt (out / 3) (groups_before_last (length s))) (length (decoded_bytes_of e s)) out n h in
    (ap (λ x. decode_outcome x (decoded_bytes_of e s)) p.0, p.1)

-- a decoding of few bytes is one into a slice
pub slice_of_decode : (e : GeneralPurpose) (s b : List ℕ) (out : ℕ) → decode_of e s ≡ Ok b
    → nat_lt (out / 3) (groups_before_last (length s)) ≡ false → nat_lt out (length b) ≡ false → decode_slice_of e s out ≡ Ok (length b)
slice_of_decode e s b out h u v = unsettled (lone e s) (later e s) (nat_lt (out / 3) (groups_before_last (length s))) (decoded_bytes_of e s) b out h u v

-- a text that decodes to 24 bytes is their text
pub text_of_decoded : (s : List ℕ) → IsBytes s → decode_slice_of url_safe_no_pad s 24 ≡ Ok 24
    → (s ≡ base64url (decoded_bytes_of url_safe_no_pad s)) × (length (decoded_bytes_of url_safe_no_pad s) ≡ 24)
unfolding base64url
text_of_decoded s bytes h =
    let p = decodes_whole url_safe_no_pad s 24 24 h in
    (decode_of_strict url_safe_no_pad s _ (refl, refl) bytes p.0, p.1)

-- 24 bytes have a text of 32
pub length-base64url : (b : List ℕ) → length b ≡ 24 → length (base64url b) ≡ 32
unfolding base64url
length-base64url b h = rw (append-nil, length-encode_symbols, h) refl

-- the text of 24 bytes decodes to 24 bytes
pub nonce_decodes : (b : List ℕ) → length b ≡ 24 → IsBytes b → decode_slice_of url_safe_no_pad (base64url b) 24 ≡ Ok 24
unfolding base64url
nonce_decodes b h bytes =
    let whole : decode_of url_safe_no_pad (base64url b) ≡ Ok b = decode_of-encode_of url_safe_no_pad b refl bytes in
    let r = slice_of_decode url_safe_no_pad (base64url b) b 24 whole (rw (length-base64url b h) refl) (rw h refl) in
    let ok : ℕ → Result ℕ DecodeSliceError = λ n. Ok n in r ∙ ap ok h

-- what was decoded is what the text spells
pub nonce_of_decoded : (s new r : List ℕ) (n : ℕ) → IsBytes s → decode_slice_of url_safe_no_pad s 24 ≡ Ok 24
    → new ≡ decoded_bytes_of url_safe_no_pad s ++ drop {A = ℕ} (length (decoded_bytes_of url_safe_no_pad s)) (replicate 24 0)
    → to_be_bytes w64 n ++ r ≡ new → s ≡ nonce_text n r
nonce_of_decoded s new r n low h written parts = search (rules, text_of_decoded)

-- the text of a nonce decodes
pub nonce_of_decodes : (s r : List ℕ) (n : ℕ) → length r ≡ 16 → IsBytes r → s ≡ nonce_text n r → decode_slice_of url_safe_no_pad s 24 ≡ Ok 24
nonce_of_decodes s r n len low e = search (rules, nonce_decodes)
