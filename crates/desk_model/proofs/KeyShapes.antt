-- A text of one of the shapes is the canonical text of a key, and the other way round.
use Rattle.std.proofs.Common.{◌≡◌, ℕ, List, ◌∷◌, ◌++◌, refl, ◌∙◌, ap, inl, inr, Bool, true, false}
use Rattle.std.specs.Prelude.{IsTrue, ◌||◌, bytes_eq, codes}
use Rattle.std.proofs.lemmas.Slice.Eq.{bytes_eq-Decides}
use Rattle.desk_model.specs.Keys.{Key, is_curve, is_number_text, ec, rsa, okp, IsKey, IsCurve, IsKeyText, canonical_text}
use Rattle.desk_model.specs.KeyTexts.{HasEcShape, HasKeyShape, HasOneNumber, HasTwoNumbers, ec_head}

-- two numbers behind a head, written out
two_whole : (head between text : List ℕ) (h : HasTwoNumbers head between text) → text ≡ head ++ (h.2.1.0 ++ 34 ∷ (between ++ (h.2.2.2.0 ++ 34 ∷ codes "}")))
two_whole head between text h = h.1 ∙ ap (λ l. head ++ l) (h.2.1.2 ∙ ap (λ l. h.2.1.0 ++ 34 ∷ l) (h.2.2.1 ∙ ap (λ l. between ++ l) h.2.2.2.2))

-- one number behind a head, written out
one_whole : (head text : List ℕ) (h : HasOneNumber head text) → text ≡ head ++ (h.2.0 ++ 34 ∷ codes "}")
one_whole head text h = h.1 ∙ ap (λ l. head ++ l) h.2.2

ec_text : (curve text : List ℕ) → IsCurve curve → (h : HasTwoNumbers (ec_head curve) (codes ",\"y\":\"") text)
    → (ec_head curve ++ (h.2.1.0 ++ 34 ∷ (codes ",\"y\":\"" ++ (h.2.2.2.0 ++ 34 ∷ codes "}")))
    ≡ canonical_text (ec curve h.2.1.0 h.2.2.2.0)) → IsKeyText text
ec_text curve text on h whole = record {
  key = ec curve h.2.1.0 h.2.2.2.0;
  formed = (on, h.2.1.1, h.2.2.2.1);
  whole = two_whole (ec_head curve) (codes ",\"y\":\"") text h ∙ whole;
}

-- a text of the shape of a key on a curve is a key's
key_of_ec_shape : (text : List ℕ) → HasEcShape text → IsKeyText text
key_of_ec_shape text (inl h) = ec_text (codes "P-256") text (inl refl) h refl
key_of_ec_shape text (inr (inl h)) = ec_text (codes "P-384") text (inr (inl refl)) h refl
key_of_ec_shape text (inr (inr h)) = ec_text (codes "P-521") text (inr (inr refl)) h refl

-- a text of one of the shapes is a key's
pub key_of_shape : (text : List ℕ) → HasKeyShape text → IsKeyText text
key_of_shape text (inl h) = key_of_ec_shape text h
key_of_shape text (inr (inl h)) = record {
  key = rsa h.2.1.0 h.2.2.2.0;
  formed = (h.2.1.1, h.2.2.2.1);
  whole = two_whole (codes "{\"e\":\"") (codes ",\"kty\":\"RSA\",\"n\":\"") text h;
}
key_of_shape text (inr (inr h)) = record {
  key = okp h.2.0;
  formed = h.2.1;
  whole = one_whole (codes "{\"crv\":\"Ed25519\",\"kty\":\"OKP\",\"x\":\"") text h;
}

-- two numbers behind a head, from their texts
two_numbers : (head between text x y : List ℕ) → IsTrue (is_number_text x) → IsTrue (is_number_text y)
    → text ≡ head ++ (x ++ 34 ∷ (between ++ (y ++ 34 ∷ codes "}"))) → HasTwoNumbers head between text
two_numbers head between text x y p q e =
    (x ++ 34 ∷ (between ++ (y ++ 34 ∷ codes "}")), e, (between ++ (y ++ 34 ∷ codes "}"), (x, p, refl), (y ++ 34 ∷ codes "}", refl, (y, q, refl))))

-- the canonical text of a key on this curve has the curve's shape
ec_shape : (curve text crv x y : List ℕ) → crv ≡ curve → IsTrue (is_number_text x) → IsTrue (is_number_text y)
    → text ≡ canonical_text (ec crv x y) → (canonical_text (ec curve x y)
    ≡ ec_head curve ++ (x ++ 34 ∷ (codes ",\"y\":\"" ++ (y ++ 34 ∷ codes "}")))) → HasTwoNumbers (ec_head curve) (codes ",\"y\":\"") text
ec_shape curve text crv x y on p q e whole = two_numbers (ec_head curve) (codes ",\"y\":\"") text x y p q (e ∙ ap (λ l. canonical_text (ec l x y)) on ∙ whole)

-- the canonical text of a key is of one of the shapes
shape_of : (text : List ℕ) (key : Key) → IsKey key → text ≡ canonical_text key → HasKeyShape text
shape_of text (ec crv x y) (inl c, p, q) e = inl (inl (ec_shape (codes "P-256") text crv x y c p q e refl))
shape_of text (ec crv x y) (inr (inl c), p, q) e = inl (inr (inl (ec_shape (codes "P-384") text crv x y c p q e refl)))
shape_of text (ec crv x y) (inr (inr c), p, q) e = inl (inr (inr (ec_shape (codes "P-521") text crv x y c p q e refl)))
shape_of text (rsa e n) (p, q) h = inr (inl (two_numbers (codes "{\"e\":\"") (codes ",\"kty\":\"RSA\",\"n\":\"") text e n p q h))
shape_of text (okp x) p h = inr (inr (x ++ 34 ∷ codes "}", h, (x, p, refl)))

-- a key's text is of one of the shapes
pub shape_of_key : (text : List ℕ) → IsKeyText text → HasKeyShape text
shape_of_key text k = shape_of text k.key k.formed k.whole

-- a curve that is served is one of the three
pub curve_known : (crv : List ℕ) → is_curve crv ≡ true → IsCurve crv
curve_known crv = by (bytes_eq crv (codes "P-256")) refl (bytes_eq crv (codes "P-384")) refl (bytes_eq crv (codes "P-521")) refl
  where
    same : (text : List ℕ) → bytes_eq crv text ≡ true → crv ≡ text
    same text e = (bytes_eq-Decides crv text).0 e

    by : (a : Bool) → bytes_eq crv (codes "P-256") ≡ a → (b : Bool) → bytes_eq crv (codes "P-384") ≡ b →
        (c : Bool) → bytes_eq crv (codes "P-521") ≡ c → (a || (b || c)) ≡ true → IsCurve crv
    by true p b q c r h = inl (same (codes "P-256") p)
    by false p true q c r h = inr (inl (same (codes "P-384") q))
    by false p false q true r h = inr (inr (same (codes "P-521") r))
    by false p false q false r h = cc
