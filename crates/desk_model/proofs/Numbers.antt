-- The number at the front of a text ends at its first quotation mark.
use Rattle.std.proofs.Common.{◌≡◌, ◌≢◌, ℕ, ◌<◌, true, suc, List, [], ◌∷◌, ◌++◌, length, get_or, refl, sym, ◌∙◌, ap, subst, arith}
use Rattle.std.proofs.lemmas.Bool.{and_parts}
use Rattle.std.specs.{Prelude.IsTrue, List.list_all}
use Rattle.desk_model.specs.{Keys.is_number_text, Keys.is_base64url_byte, KeyTexts.IsNumberThen}

-- a number has characters of base64url alone
pub number_bytes : (n : List ℕ) → IsTrue (is_number_text n) → list_all is_base64url_byte n ≡ true
number_bytes n e = (and_parts _ (list_all is_base64url_byte n) e).1

-- a quotation mark is no such character
no_quote : (c : ℕ) → is_base64url_byte c ≡ true → c ≡ 34 → ⊥
no_quote c t h = let z : is_base64url_byte 34 ≡ true = subst (λ (n : ℕ). is_base64url_byte n ≡ true) h t in absurd (cc z)

-- two lists of such characters before a quotation mark are one
same_front : (a b r s : List ℕ) → list_all is_base64url_byte a ≡ true → list_all is_base64url_byte b ≡ true → a ++ 34 ∷ r ≡ b ++ 34 ∷ s → (a ≡ b) × (r ≡ s)
same_front [] [] r s p q e = (refl, cc e)
same_front [] (y ∷ ys) r s p q e =
    let h : y ≡ 34 = cc e in
    absurd (no_quote y (and_parts (is_base64url_byte y) (list_all is_base64url_byte ys) q).0 h)
same_front (x ∷ xs) [] r s p q e =
    let h : x ≡ 34 = cc e in
    absurd (no_quote x (and_parts (is_base64url_byte x) (list_all is_base64url_byte xs) p).0 h)
same_front (x ∷ xs) (y ∷ ys) r s p q e =
    let h : x ≡ y = cc e in
    let t : xs ++ 34 ∷ r ≡ ys ++ 34 ∷ s = cc e in
    let rest = same_front xs ys r s (and_parts (is_base64url_byte x) (list_all is_base64url_byte xs) p).1
    (and_parts (is_base64url_byte y) (list_all is_base64url_byte ys) q).1 t in
    let u = rest.0 in
    (cc (h, u), rest.1)

-- what stands behind a number is one text
pub IsNumberThen-unique : (text r s : List ℕ) → IsNumberThen text r → IsNumberThen text s → r ≡ s
IsNumberThen-unique text r s m n = (same_front m.0 n.0 r s (number_bytes m.0 m.1) (number_bytes n.0 n.1) (sym m.2 ∙ n.2)).1

-- no quotation mark stands in the list
abbrev unmarked : List ℕ → Type 0
unmarked xs = (i : ℕ) → i < length xs → get_or xs i 0 ≢ 34

-- a list without a quotation mark has none in front of another
front_without : (a b r s : List ℕ) → unmarked a → list_all is_base64url_byte b ≡ true → a ++ 34 ∷ r ≡ b ++ 34 ∷ s → a ≡ b
front_without [] [] r s p q e = refl
front_without [] (y ∷ ys) r s p q e =
    let h : y ≡ 34 = cc e in
    absurd (no_quote y (and_parts (is_base64url_byte y) (list_all is_base64url_byte ys) q).0 h)
front_without (x ∷ xs) [] r s p q e = absurd (p 0 (omega arith) (cc e))
front_without (x ∷ xs) (y ∷ ys) r s p q e =
    let h : x ≡ y = cc e in
    let t : xs ++ 34 ∷ r ≡ ys ++ 34 ∷ s = cc e in
    let u = front_without xs ys r s (λ i l. p (suc i) (omega arith)) (and_parts (is_base64url_byte y) (list_all is_base64url_byte ys) q).1 t in
    cc (h, u)

-- a text without a quotation mark has no number in front
pub no_mark_no_number : (text : List ℕ) → ((i : ℕ) → i < length text → get_or text i 0 ≢ 34) → (n rest : List ℕ) → text ≢ n ++ 34 ∷ rest
no_mark_no_number text none [] rest e = none 0 (subst (λ (l : List ℕ). 0 < length l) (sym e) (omega arith)) (ap (λ l. get_or l 0 0) e)
no_mark_no_number [] none (x ∷ xs) rest e = absurd (cc e)
no_mark_no_number (y ∷ ys) none (x ∷ xs) rest e = no_mark_no_number ys (λ i l. none (suc i) (omega arith)) xs rest (cc e)

-- a number in front is the part before the first quotation mark
pub number_is_first : (text a r n rest : List ℕ) → (text ≡ a ++ 34 ∷ r) × ((i : ℕ) → i < length a → get_or a i 0 ≢ 34)
    → IsTrue (is_number_text n) → text ≡ n ++ 34 ∷ rest → IsTrue (is_number_text a)
number_is_first text a r n rest m num e =
    let same : a ≡ n = front_without a n r rest m.1 (number_bytes n num) (sym m.0 ∙ e) in
    subst (λ (l : List ℕ). IsTrue (is_number_text l)) (sym same) num
