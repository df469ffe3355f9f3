-- Strings that are written as they stand.
use Rattle.std.proofs.Common.{◌≡◌, ℕ, List, [], ◌∷◌, ◌++◌, map, codes, true, ◌==◌, refl, sym, ap, ◌∙◌, append_assoc}
use Rattle.std.proofs.lemmas.Bool.{and_parts, or_parts, not-true, eqb-false, ltb-false}
use Rattle.std.specs.List.{list_all}
use Rattle.json.specs.{Print.escape, Run.is_stop, Run.is_plain}
use Rattle.json.proofs.Printed.Strings.{escape_byte_plain}
use Rattle.serde_json.specs.{Data.string, Written.compact_text}
use Rattle.desk_model.specs.Json.{list}

-- what needs no escape is written as it stands
escape-plain : (s : List ℕ) → list_all is_plain s ≡ true → escape s ≡ s
escape-plain [] plain = refl
escape-plain (x ∷ s) plain =
    let parts = and_parts (is_plain x) (list_all is_plain s) plain in
    let none = or_parts _ _ (not-true (is_stop x) parts.0) in
    let marks = or_parts (x == 34) _ none.0 in
    let first = escape_byte_plain x (eqb-false x 34 marks.0) (eqb-false x 92 marks.1) (ltb-false x 32 none.1) in
    λ i. first i ++ escape-plain s parts.1 i

-- a list of one such string has its bytes between the brackets and the marks
pub lone-list : (s : List ℕ) → list_all is_plain s ≡ true → codes "[\"" ++ (s ++ codes "\"]") ≡ compact_text (list (map string (s ∷ [])))
lone-list s plain = sym (append_assoc (codes "[\"" ++ escape s) (34 ∷ []) (93 ∷ []) ∙ ap (λ t. codes "[\"" ++ (t ++ codes "\"]")) (escape-plain s plain))
