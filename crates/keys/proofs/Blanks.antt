-- A body matches one text at most.
use Rattle.std.proofs.Common.{◌≡◌, ℕ, ◌+◌, ◌-◌, ◌<◌, ◌≤◌, true, false, List, [], ◌∷◌, ◌++◌, length, get_or, take, drop, refl, sym, ap, ◌∙◌, arith}
use Rattle.std.proofs.Common.{length-append}
use Rattle.std.proofs.lemmas.List.{take-append-drop, get_or-take, length-take-le}
use Rattle.std.proofs.{lemmas.Bool.lt-ltb, Math.Seq.get_or-append_seam, lemmas.List.Elements.All-head, lemmas.List.Elements.All-tail}
use Rattle.std.specs.Prelude.{IsTrue, All, nat_lt, ◌&&◌}
use Rattle.desk_model.specs.Tokens.{is_blank, IsBodyMatch}

-- a blank
abbrev IsBlank : ℕ → Type 0
IsBlank c = IsTrue (is_blank c)

-- a text that does not end in a blank
abbrev IsTrimmed : List ℕ → Type 0
IsTrimmed e = (front : List ℕ) (c : ℕ) → e ≡ front ++ c ∷ [] → IsBlank c → ⊥

-- blanks alone
abbrev pub AllBlank : List ℕ → Type 0
AllBlank xs = All (λ c. IsTrue (is_blank c)) xs

-- the end of a text tells whether it ends in a blank
trimmed_tail : (y : ℕ) (ys : List ℕ) → IsTrimmed (y ∷ ys) → IsTrimmed ys
trimmed_tail y ys t front c e b = t (y ∷ front) c (ap (λ z. y ∷ z) e) b

-- a text of blanks ends in one
not_trimmed : (y : ℕ) (ys t : List ℕ) → AllBlank (y ∷ ys ++ t) → IsTrimmed (y ∷ ys) → ⊥
not_trimmed y [] t all trim = trim [] y refl (All-head (λ c. IsTrue (is_blank c)) y t all)
not_trimmed y (z ∷ zs) t all trim = not_trimmed z zs t (All-tail (λ c. IsTrue (is_blank c)) y (z ∷ zs ++ t) all) (trimmed_tail y (z ∷ zs) trim)

-- a body is a trimmed text and blanks in one way
one_match : (a b s t : List ℕ) → a ++ s ≡ b ++ t → AllBlank s → AllBlank t → IsTrimmed a → IsTrimmed b → a ≡ b
one_match [] [] s t e bs bt ta tb = refl
one_match [] (y ∷ ys) s t e bs bt ta tb = absurd (not_trimmed y ys t (rw e at bs) tb)
one_match (x ∷ xs) [] s t e bs bt ta tb = absurd (not_trimmed x xs s (rw (← e) at bt) ta)
one_match (x ∷ xs) (y ∷ ys) s t e bs bt ta tb =
    let here : x ≡ y = cc e in
    let rest : xs ++ s ≡ ys ++ t = cc e in
    let same = one_match xs ys s t rest bs bt (trimmed_tail x xs ta) (trimmed_tail y ys tb) in
    cc (here, same)

-- a body matches one text
pub body_match_unique : (body a b : List ℕ) → IsBodyMatch body a → IsBodyMatch body b → a ≡ b
body_match_unique body a b m n = one_match a b m.blanks n.blanks (sym m.whole ∙ n.whole) m.all_blank n.all_blank m.trimmed n.trimmed

-- what is left of the bytes once the blanks at their end are gone
pub IsBodyMatch-from_end : (bytes : List ℕ) (end : ℕ) → end ≤ length bytes → AllBlank (drop end bytes)
    → false ≡ (nat_lt 0 end && is_blank (get_or bytes (end - 1) 0)) → IsBodyMatch bytes (take end bytes)
IsBodyMatch-from_end bytes end le all stop = record {
  blanks = drop end bytes;
  whole = sym (take-append-drop end bytes);
  all_blank = all;
  trimmed = λ front c e b.
      let len : length front + 1 ≡ end = sym (simp length-append at (ap length e)) ∙ length-take-le end bytes le in
      let lt : length front < end = omega arith in
      let last : get_or bytes (length front) 0 ≡ c = sym (get_or-take end bytes (length front) 0 lt) ∙ ap (λ z. get_or z (length front) 0) e
      ∙ get_or-append_seam front c [] 0 in
      let at : end - 1 ≡ length front = omega arith in
      let pos : nat_lt 0 end ≡ true = lt-ltb 0 end (omega arith) in
      let no : is_blank c ≡ false = sym (rw (at, last, pos) at stop) in
      cc (no, b);
}
