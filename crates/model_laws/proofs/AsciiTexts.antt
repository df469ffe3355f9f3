-- Bases, names and canonical texts of keys are ASCII, and so UTF-8.
use Rattle.std.proofs.Common.{◌≡◌, ◌<◌, ℕ, suc, ◌+◌, List, [], ◌∷◌, ◌++◌, length, get_or, IsUtf8, refl, sym, subst, true, Bool, arith, length-append}
use Rattle.std.proofs.lemmas.Str.{IsUtf8-append, IsUtf8-drop, IsUtf8-from_ascii, IsUtf8-nil, IsUtf8-take, IsCharBoundary-before_ascii}
use Rattle.std.proofs.lemmas.Str.{IsCharBoundary-after_ascii}
use Rattle.std.proofs.{Math.Seq.take-append_seam, Math.Seq.drop-append-add, Math.Seq.get_or-append_seam, lemmas.Bool.and_parts, lemmas.Bool.Decides.nat_tests}
use Rattle.std.proofs.{lemmas.List.Splits.join_with_byte-slice_split, lemmas.List.Sums.AllPass-from_list_all, lemmas.Str.Ascii.IsAscii-from_all}
use Rattle.std.specs.{Prelude.codes, Char.is_ascii, List.list_all, List.join_with_byte}
use Rattle.desk_model.specs.Keys.{Key, ec, rsa, okp, IsCurve, IsKey, IsKeyText, canonical_text, is_base64url_byte, is_number_text}
use Rattle.desk_model.specs.{BaseName.is_base_name, BaseName.is_label, BaseName.is_label_byte, Terms.Terms, Terms.are_terms}

-- ---- ASCII

-- bytes that pass a test that ASCII alone passes are a text
pub passing_text : (test : ℕ → Bool) → ((c : ℕ) → test c ≡ true → c < 128) → (bytes : List ℕ) → list_all test bytes ≡ true → IsUtf8 bytes
passing_text test low bytes h = IsUtf8-from_ascii bytes (IsAscii-from_all bytes (λ k d there. low _ (AllPass-from_list_all test bytes h k d there)))

-- ASCII bytes are a text
pub ascii_text : (bytes : List ℕ) → list_all is_ascii bytes ≡ true → IsUtf8 bytes
ascii_text = passing_text is_ascii (λ c h. grind (arith, nat_tests))

-- an ASCII byte and a text are a text
pub ascii_before : (b : ℕ) (rest : List ℕ) → is_ascii b ≡ true → IsUtf8 rest → IsUtf8 (b ∷ rest)
ascii_before b rest h text = IsUtf8-append (b ∷ []) rest (ascii_text (b ∷ []) (rw h refl)) text

-- what stands before an ASCII byte of a text, and what stands after it
pub record IsParted (front rest : List ℕ) : Type 0 where
  pub before : IsUtf8 front
  pub after : IsUtf8 rest

-- a text is separated by an ASCII byte
pub parted : (front : List ℕ) (b : ℕ) (rest : List ℕ) → IsUtf8 (front ++ b ∷ rest) → b < 128 → IsParted front rest
parted front b rest whole ascii =
    let text : List ℕ = front ++ b ∷ rest in
    let at : get_or text (length front) 0 ≡ b = get_or-append_seam front b rest 0 in
    let long : length text ≡ length front + suc (length rest) = length-append front (b ∷ rest) in
    let there : length front < length text = omega arith in
    let low : get_or text (length front) 0 < 128 = omega arith in
    record {
      before = subst IsUtf8 (take-append_seam front (b ∷ rest))
          (IsUtf8-take text (length front) whole (IsCharBoundary-before_ascii text (length front) there low));
      after = subst IsUtf8 (drop-append-add front (b ∷ rest) 1)
          (IsUtf8-drop text (length front + 1) whole (IsCharBoundary-after_ascii text (length front) whole there low));
    }

-- ---- bases

-- the base of a desk's URLs is a text
pub base_text : (t : Terms) → are_terms t ≡ true → IsUtf8 t.base
base_text t h = grind (arith, nat_tests, and_parts, passing_text)

-- ---- names

-- a label is a text
label_text : (label : List ℕ) → is_label label ≡ true → IsUtf8 label
label_text label h = passing_text is_label_byte (λ c k. grind (arith, nat_tests)) label (and_parts (list_all is_label_byte label) _ (and_parts _ _ h).1).0

-- labels with a full stop between each two are a text
joined_text : (labels : List (List ℕ)) → list_all is_label labels ≡ true → IsUtf8 (join_with_byte 46 labels)
joined_text [] h = IsUtf8-nil
joined_text (l ∷ []) h = label_text l (and_parts (is_label l) _ h).0
joined_text (l ∷ k ∷ labels) h =
    let p = and_parts (is_label l) _ h in
    IsUtf8-append l _ (label_text l p.0) (ascii_before 46 (join_with_byte 46 (k ∷ labels)) refl (joined_text (k ∷ labels) p.1))

-- a base name is a text
pub base_name_text : (name : List ℕ) → is_base_name name ≡ true → IsUtf8 name
base_name_text name h = grind (arith, nat_tests, and_parts, join_with_byte-slice_split, joined_text, (join_with_byte-slice_split 46 name))

-- ---- keys

-- a number of a key is a text
number_text : (s : List ℕ) → is_number_text s ≡ true → IsUtf8 s
number_text s h = passing_text is_base64url_byte (λ c k. grind (arith, nat_tests)) s (and_parts _ (list_all is_base64url_byte s) h).1

-- so is the name of a curve
curve_text : (curve : List ℕ) → IsCurve curve → IsUtf8 curve
curve_text curve h = grind (arith, ascii_text)

-- a text behind ASCII bytes
ascii_then : (bytes rest : List ℕ) → list_all is_ascii bytes ≡ true → IsUtf8 rest → IsUtf8 (bytes ++ rest)
ascii_then bytes rest h text = IsUtf8-append bytes rest (ascii_text bytes h) text

-- the end of an object
object_end : IsUtf8 (codes "\"}")
object_end = ascii_text (codes "\"}") refl

-- and the canonical text of a key
canonical_is_text : (key : Key) → IsKey key → IsUtf8 (canonical_text key)
canonical_is_text (ec crv x y) h =
    ascii_then (codes "{\"crv\":\"") _ refl (IsUtf8-append crv _ (curve_text crv h.0) (ascii_then (codes "\",\"kty\":\"EC\",\"x\":\"") _ refl
    (IsUtf8-append x _ (number_text x h.1) (ascii_then (codes "\",\"y\":\"") _ refl (IsUtf8-append y _ (number_text y h.2) object_end)))))
canonical_is_text (rsa e n) h =
    ascii_then (codes "{\"e\":\"") _ refl (IsUtf8-append e _ (number_text e h.0)
    (ascii_then (codes "\",\"kty\":\"RSA\",\"n\":\"") _ refl (IsUtf8-append n _ (number_text n h.1) object_end)))
canonical_is_text (okp x) h = ascii_then (codes "{\"crv\":\"Ed25519\",\"kty\":\"OKP\",\"x\":\"") _ refl (IsUtf8-append x _ (number_text x h) object_end)

-- as the desk keeps it
pub key_text : (text : List ℕ) → IsKeyText text → IsUtf8 text
key_text text h = subst IsUtf8 (sym h.whole) (canonical_is_text h.key h.formed)
