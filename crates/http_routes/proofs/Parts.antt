-- The parts of a route's text: before its number, and behind it.
use Rattle.std.proofs.Common.{◌≡◌, ◌≢◌, ℕ, Bool, true, false, cond, ◌==◌, List, [], ◌∷◌, ◌++◌, codes, Option, MatchOption, refl, sym, subst, ◌∙◌, arith}
use Rattle.http_routes.specs.Routes.{HasNumber, IsPathText, is_numbered, prefix, suffix, text_by, text_of}
use Rattle.http_routes.specs.declared.routes.Route.{Route}

-- the text has a brace that opens
abbrev has_brace : List ℕ → Bool
has_brace [] = false
has_brace (c ∷ text) = cond (c == 123) true (has_brace text)

-- the brace of a mark is one
brace_of_mark : (before after : List ℕ) → has_brace (before ++ (123 ∷ after)) ≡ true
brace_of_mark [] after = refl
brace_of_mark (c ∷ before) after = grind (arith, (brace_of_mark before after))

-- a text without one has none behind its first byte
none_behind : (c : ℕ) (text : List ℕ) → has_brace (c ∷ text) ≡ false → has_brace text ≡ false
none_behind c text h = grind arith

-- a text without one has no mark
no_mark : (text before after : List ℕ) → has_brace text ≡ false → text ≡ before ++ (123 ∷ after) → ⊥
no_mark text before after free e =
    let there : has_brace text ≡ true = subst (λ (l : List ℕ). has_brace l ≡ true) (sym e) (brace_of_mark before after) in cc

-- a mark between two texts without one stands at one place
one_mark : (p s before after : List ℕ) → has_brace p ≡ false → has_brace s ≡ false
    → p ++ (codes "{n}" ++ s) ≡ before ++ (codes "{n}" ++ after) → (before ≡ p) × (after ≡ s)
one_mark [] s [] after free last e = (refl, cc)
one_mark [] s (x ∷ before) after free last e =
    let behind : 110 ∷ 125 ∷ s ≡ before ++ (123 ∷ 110 ∷ 125 ∷ after) = cc in
    absurd (no_mark (110 ∷ 125 ∷ s) before (110 ∷ 125 ∷ after) last behind)
one_mark (c ∷ p) s [] after free last e = grind arith
one_mark (c ∷ p) s (x ∷ before) after free last e =
    let same : c ≡ x = cc in
    let behind : p ++ (codes "{n}" ++ s) ≡ before ++ (codes "{n}" ++ after) = cc in
    let rest : (before ≡ p) × (after ≡ s) = one_mark p s before after (none_behind c p free) last behind in
    ((λ i. sym same i ∷ rest.0 i), rest.1)

-- no route's path has a brace
free : (r : Route) → (has_brace (prefix r) ≡ false) × (has_brace (suffix r) ≡ false)
free r = grind arith

-- the number of a path of a route whose text has a mark stands between what is before it and behind it
pub between_parts : (path : List ℕ) (r : Route) (before after : List ℕ) (o : Option ℕ) → text_of r ≡ before ++ (codes "{n}" ++ after)
    → MatchOption o ((n : ℕ) → HasNumber path before n after → ⊥) (λ n. HasNumber path before n after)
    → MatchOption o ((n : ℕ) → IsPathText (is_numbered r) path r n → ⊥) (λ n. IsPathText (is_numbered r) path r n)
between_parts path r before after o e h = by (is_numbered r) e
  where
    by : (b : Bool) → text_by b r ≡ before ++ (codes "{n}" ++ after)
        → MatchOption o ((n : ℕ) → IsPathText b path r n → ⊥) (λ n. IsPathText b path r n)
    by false q = absurd (no_mark (prefix r) before (110 ∷ 125 ∷ after) (free r).0 q)
    by true q =
        let parts : (before ≡ prefix r) × (after ≡ suffix r) = one_mark (prefix r) (suffix r) before after (free r).0 (free r).1 q in
        let P : List ℕ → List ℕ → Type 0 = λ p s. MatchOption o ((n : ℕ) → HasNumber path p n s → ⊥) (λ n. HasNumber path p n s) in
        subst (λ (s : List ℕ). P (prefix r) s) parts.1 (subst (λ (p : List ℕ). P p after) parts.0 h)

module _ (r : Route) (none : (before after : List ℕ) → text_of r ≢ before ++ (codes "{n}" ++ after)) where
  -- a route whose text has no mark is without a number
  no_number : is_numbered r ≡ false
  no_number = by (is_numbered r) none
    where
      by : (b : Bool) → ((before after : List ℕ) → text_by b r ≢ before ++ (codes "{n}" ++ after)) → b ≡ false
      by false q = refl
      by true q = absurd (q (prefix r) (suffix r) refl)

  -- its path is its text
  pub whole_path : (path : List ℕ) → path ≡ text_of r → IsPathText (is_numbered r) path r 0
  whole_path path e = grind arith

  -- and no other
  pub other_path : (path : List ℕ) → path ≢ text_of r → (n : ℕ) → IsPathText (is_numbered r) path r n → ⊥
  other_path path other n h =
      let q : (path ≡ prefix r) × (n ≡ 0) = subst (λ (b : Bool). IsPathText b path r n) no_number h in
      other (q.0 ∙ (λ i. text_by (sym no_number i) r))
