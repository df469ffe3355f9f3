-- The key that is computed from a value is the one that the value spells.
use Rattle.std.proofs.Common.{◌≡◌, ℕ, Bool, true, false, cond, List, Option, Some, None, refl, sym, ap, ◌∙◌, subst, arith}
use Rattle.std.proofs.lemmas.Slice.Eq.{bytes_eq-Decides}
use Rattle.std.specs.Prelude.{bytes_eq, codes, option_map}
use Rattle.serde_json.specs.Data.{Data}
use Rattle.desk_model.proofs.KeyShapes.{curve_known}
use Rattle.desk_model.specs.Keys.{Key, ec, rsa, IsKeyOf, canonical_text, ec_by, is_curve, key_in, key_of_type, number_member, okp_by, rsa_by, text_member}
use Rattle.desk_model.specs.Payload.{key_text_in}

-- ---- keys

-- the key that a value spells is computed
key_computed : (d : Data) (k : Key) → IsKeyOf d k → key_in d ≡ Some k
unfolding key_in
key_computed d k h = grind arith

-- what is computed is a key that the value spells
key_spelled : (d : Data) (k : Key) → key_in d ≡ Some k → IsKeyOf d k
unfolding key_in
key_spelled d k h = by (text_member (codes "kty") d) refl h
  where
    on_curve : (crv x y : Option (List ℕ)) → text_member (codes "kty") d ≡ Some (codes "EC") → text_member (codes "crv") d ≡ crv →
        number_member (codes "x") d ≡ x → number_member (codes "y") d ≡ y → ec_by crv x y ≡ Some k → IsKeyOf d k
    on_curve None x y t a b c g = cc
    on_curve (Some crv) None y t a b c g = cc
    on_curve (Some crv) (Some x) None t a b c g = cc
    on_curve (Some crv) (Some x) (Some y) t a b c g = served (is_curve crv) refl g
      where
        served : (v : Bool) → is_curve crv ≡ v → cond v (Some (ec crv x y)) None ≡ Some k → IsKeyOf d k
        served true e g = let same : ec crv x y ≡ k = cc in subst (IsKeyOf d) same (t, (a, curve_known crv e, b, c))
        served false e g = cc

    of_rsa : (e n : Option (List ℕ)) → text_member (codes "kty") d ≡ Some (codes "RSA") → number_member (codes "e") d ≡ e →
        number_member (codes "n") d ≡ n → rsa_by e n ≡ Some k → IsKeyOf d k
    of_rsa None n t a b g = cc
    of_rsa (Some e) None t a b g = cc
    of_rsa (Some e) (Some n) t a b g = let same : rsa e n ≡ k = cc in subst (IsKeyOf d) same (t, (a, b))

    of_okp : (crv x : Option (List ℕ)) → text_member (codes "kty") d ≡ Some (codes "OKP") → text_member (codes "crv") d ≡ crv →
        number_member (codes "x") d ≡ x → okp_by crv x ≡ Some k → IsKeyOf d k
    of_okp i j u l w f = grind (arith, bytes_eq-Decides)

    by : (kty : Option (List ℕ)) → text_member (codes "kty") d ≡ kty → key_of_type d kty ≡ Some k → IsKeyOf d k
    by None e g = cc
    by (Some t) e g = typed (bytes_eq t (codes "EC")) refl (bytes_eq t (codes "RSA")) refl (bytes_eq t (codes "OKP")) refl g
      where
        same : (text : List ℕ) → bytes_eq t text ≡ true → text_member (codes "kty") d ≡ Some text
        same text q = e ∙ ap (λ s. Some s) ((bytes_eq-Decides t text).0 q)

        typed : (a : Bool) → bytes_eq t (codes "EC") ≡ a → (b : Bool) → bytes_eq t (codes "RSA") ≡ b → (c : Bool) → bytes_eq t (codes "OKP") ≡ c →
            cond a (ec_by (text_member (codes "crv") d) (number_member (codes "x") d) (number_member (codes "y") d))
            (cond b (rsa_by (number_member (codes "e") d) (number_member (codes "n") d))
            (cond c (okp_by (text_member (codes "crv") d) (number_member (codes "x") d)) None)) ≡ Some k → IsKeyOf d k
        typed true p b q c r g =
            on_curve (text_member (codes "crv") d) (number_member (codes "x") d) (number_member (codes "y") d) (same (codes "EC") p) refl refl refl g
        typed false p true q c r g = of_rsa (number_member (codes "e") d) (number_member (codes "n") d) (same (codes "RSA") q) refl refl g
        typed false p false q true r g = of_okp (text_member (codes "crv") d) (number_member (codes "x") d) (same (codes "OKP") r) refl refl g
        typed false p false q false r g = cc

-- ---- their texts

-- the text of the key that a value spells
pub text_computed : (d : Data) (text : List ℕ) (k : Key) → IsKeyOf d k → text ≡ canonical_text k → key_text_in d ≡ Some text
text_computed d text k h same = ap (option_map canonical_text) (key_computed d k h) ∙ ap (λ t. Some t) (sym same)

-- a value that spells no key has no such text
pub none_computed : (d : Data) → ((k : Key) → IsKeyOf d k → ⊥) → key_text_in d ≡ None
none_computed d none = by (key_in d) refl
  where
    by : (o : Option Key) → key_in d ≡ o → option_map canonical_text o ≡ None
    by None e = refl
    by (Some k) e = absurd (none k (key_spelled d k e))
