-- The members of a canonical key text, whose names stand in order.
use Rattle.std.proofs.Common.{◌≡◌, ℕ, List, [], ◌∷◌, ◌++◌, true, false, refl, sym, ap, ◌∙◌, arith, rules}
use Rattle.std.proofs.{lemmas.Bool.and_parts, lemmas.Bool.Decides.nat_tests}
use Rattle.std.specs.{Prelude.◌==◌, Prelude.codes, List.list_all, List.slice_split}
use Rattle.serde_json.specs.Data.{no_members}
use Rattle.desk_model.specs.{Json.members, Document.key_members}
use Rattle.desk_model.specs.Keys.{Key, ec, rsa, okp, IsCurve, IsKey, IsKeyText, canonical_text, is_base64url_byte}
use Rattle.desk_model.proofs.Numbers.{number_bytes}
use Rattle.core_replies.specs.Shown.{with_members}

-- the parts of a text between its quotation marks
abbrev parts : List ℕ → List (List ℕ)
parts text = slice_split (λ c. c == 34) text

-- a byte of base64url is no quotation mark
unmarked : (c : ℕ) → is_base64url_byte c ≡ true → (c == 34) ≡ false
unmarked c is = grind (arith, nat_tests)

-- what stands before the first mark is one part
parts-of : (first rest : List ℕ) → list_all is_base64url_byte first ≡ true → parts (first ++ 34 ∷ rest) ≡ first ∷ parts rest
parts-of [] rest each = refl
parts-of (c ∷ cs) rest each = grind (
  arith,
  nat_tests,
  unmarked,
  and_parts,
  (parts-of cs rest (and_parts (is_base64url_byte c) (list_all is_base64url_byte cs) each).1),
)

-- the name of a curve is of such bytes
curve_bytes : (crv : List ℕ) → IsCurve crv → list_all is_base64url_byte crv ≡ true
curve_bytes crv h = search rules

-- the parts of each canonical text
parts-canonical : Key → List (List ℕ)
parts-canonical (ec crv x y) =
    codes "{" ∷ codes "crv" ∷ codes ":" ∷ crv ∷ codes "," ∷ codes "kty" ∷ codes ":" ∷ codes "EC" ∷ codes "," ∷ codes "x" ∷ codes ":" ∷ x
    ∷ codes "," ∷ codes "y" ∷ codes ":" ∷ y ∷ codes "}" ∷ []
parts-canonical (rsa e n) =
    codes "{" ∷ codes "e" ∷ codes ":" ∷ e ∷ codes "," ∷ codes "kty" ∷ codes ":" ∷ codes "RSA" ∷ codes "," ∷ codes "n" ∷ codes ":" ∷ n ∷ codes "}" ∷ []
parts-canonical (okp x) =
    codes "{" ∷ codes "crv" ∷ codes ":" ∷ codes "Ed25519" ∷ codes "," ∷ codes "kty" ∷ codes ":" ∷ codes "OKP" ∷ codes "," ∷ codes "x" ∷ codes ":" ∷ x
    ∷ codes "}" ∷ []

-- the parts of a canonical text are those of its key
parts-are : (k : Key) → IsKey k → parts (canonical_text k) ≡ parts-canonical k
unfolding parts-canonical
parts-are (ec crv x y) formed =
    ap (λ l. codes "{" ∷ codes "crv" ∷ codes ":" ∷ l)
    (parts-of crv (codes ",\"kty\":\"EC\",\"x\":\"" ++ (x ++ (codes "\",\"y\":\"" ++ (y ++ codes "\"}")))) (curve_bytes crv formed.0)
    ∙ ap (λ l. crv ∷ codes "," ∷ codes "kty" ∷ codes ":" ∷ codes "EC" ∷ codes "," ∷ codes "x" ∷ codes ":" ∷ l)
    (parts-of x (codes ",\"y\":\"" ++ (y ++ codes "\"}")) (number_bytes x formed.1)
    ∙ ap (λ l. x ∷ codes "," ∷ codes "y" ∷ codes ":" ∷ l) (parts-of y (codes "}") (number_bytes y formed.2))))
parts-are (rsa e n) formed =
    ap (λ l. codes "{" ∷ codes "e" ∷ codes ":" ∷ l)
    (parts-of e (codes ",\"kty\":\"RSA\",\"n\":\"" ++ (n ++ codes "\"}")) (number_bytes e formed.0)
    ∙ ap (λ l. e ∷ codes "," ∷ codes "kty" ∷ codes ":" ∷ codes "RSA" ∷ codes "," ∷ codes "n" ∷ codes ":" ∷ l)
    (parts-of n (codes "}") (number_bytes n formed.1)))
parts-are (okp x) formed =
    ap (λ l. codes "{" ∷ codes "crv" ∷ codes ":" ∷ codes "Ed25519" ∷ codes "," ∷ codes "kty" ∷ codes ":" ∷ codes "OKP" ∷ codes "," ∷ codes "x" ∷ codes ":" ∷ l)
    (parts-of x (codes "}") (number_bytes x formed))

-- the members of a key stand in the order of their names
in_order : (k : Key) → with_members (key_members (parts-canonical k)) no_members ≡ members (key_members (parts-canonical k))
unfolding parts-canonical
in_order (ec crv x y) = refl
in_order _ = refl

-- put one by one, the members of a canonical text are in their places
pub key_members-put : (text : List ℕ) → IsKeyText text → with_members (key_members (parts text)) no_members ≡ members (key_members (parts text))
key_members-put text key =
    ap (λ ps. with_members (key_members ps) no_members) are ∙ in_order key.key ∙ sym (ap (λ ps. members (key_members ps)) are)
  where
    are : parts text ≡ parts-canonical key.key
    are = ap parts key.whole ∙ parts-are key.key key.formed
