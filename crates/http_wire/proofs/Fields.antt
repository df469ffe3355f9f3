-- The values of a name, with one field more; tokens.
use Rattle.std.proofs.Common.{◌≡◌, ◌<◌, ◌+◌, length, take, get_or, add-one, arith, ℕ, Bool, true, false, List, [], ◌∷◌, ◌++◌, map, refl, ap, ◌∙◌, sym}
use Rattle.std.proofs.{lemmas.List.map-append, lemmas.Bool.Decides.nat_tests, lemmas.Str.IsUtf8-from_ascii, lemmas.Str.Ascii.IsAscii-from_all}
use Rattle.std.proofs.{Math.Seq.take-suc, lemmas.List.Elements.All-weaker, lemmas.List.Elements.filter-append}
use Rattle.std.specs.{List.filter, Prelude.if◌then◌else◌, Prelude.All, Prelude.IsUtf8}
use Rattle.httparse.specs.Spans.{IsHeaderWithin, IsRequestWithin, header_bytes, span_bytes}
use Rattle.httparse.specs.{declared.spans.RequestSpans.RequestSpans, declared.spans.HeaderSpan.HeaderSpan, Grammar.IsToken, Grammar.is_token_byte}
use Rattle.http_wire.specs.Framing.{values_of, same_name}

-- the values of one field, or of none
one_value : (b : Bool) (p : List ℕ × List ℕ) → map (λ (f : List ℕ × List ℕ). f.1) (if b then p ∷ [] else []) ≡ (if b then p.1 ∷ [] else [])
one_value true p = refl
one_value false p = refl

-- the values of one field more
pub values_snoc : (name : List ℕ) (fields : List (List ℕ × List ℕ)) (p : List ℕ × List ℕ)
    → values_of name (fields ++ p ∷ []) ≡ values_of name fields ++ (if same_name p.0 name then p.1 ∷ [] else [])
values_snoc name fields p =
    ap (map (λ f. f.1)) (filter-append (λ f. same_name f.0 name) fields (p ∷ []))
    ∙ (map-append (λ f. f.1) (filter (λ f. same_name f.0 name) fields) (filter (λ f. same_name f.0 name) (p ∷ []))
    ∙ ap (λ l. values_of name fields ++ l) (one_value (same_name p.0 name) p))

-- a byte of a token is one of ASCII
token_byte_below : (b : ℕ) → is_token_byte b ≡ true → b < 128
unfolding is_token_byte
token_byte_below b passes = grind (arith, nat_tests)

-- so a token is text
pub token_is_text : (bytes : List ℕ) → IsToken bytes → IsUtf8 bytes
token_is_text bytes h =
    IsUtf8-from_ascii bytes (IsAscii-from_all bytes (All-weaker (λ b. is_token_byte b ≡ true) (λ b. b < 128) token_byte_below bytes h.1))

-- the fields of one span more
pub headers_more : (buffer : List ℕ) (headers : List HeaderSpan) (i : ℕ) (d : HeaderSpan) (name value : List ℕ) → i < length headers
    → name ≡ span_bytes buffer (get_or headers i d).name → value ≡ span_bytes buffer (get_or headers i d).value
    → map (header_bytes buffer) (take i headers) ++ (name, value) ∷ [] ≡ map (header_bytes buffer) (take (i + 1) headers)
headers_more buffer headers i d name value h n v =
    (λ k. map (header_bytes buffer) (take i headers) ++ (n k, v k) ∷ [])
    ∙ sym (rw (add-one, take-suc headers i d h) (map-append (header_bytes buffer) (take i headers) (get_or headers i d ∷ [])))

-- the spans of the fields of a head lie in the bytes that it was read from
pub headers_within : (bytes : List ℕ) (headers : List HeaderSpan) (spans : RequestSpans) → IsRequestWithin bytes headers spans
    → All (IsHeaderWithin (length bytes)) (take spans.headers headers)
headers_within bytes headers spans w =
    All-weaker (IsHeaderWithin spans.len) (IsHeaderWithin (length bytes)) (λ h lies.
    ((lies.0.0, omega (arith, lies.0.1, w.section.len_fits)), (lies.1.0, omega (arith, lies.1.1, w.section.len_fits))))
    (take spans.headers headers) w.section.headers_fit
