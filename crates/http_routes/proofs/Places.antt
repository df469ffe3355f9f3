-- A path that is none of the table's.
use Rattle.std.proofs.Common.{◌≡◌, ℕ, List, ◌++◌, Option, Some, None, MatchOption, sym, ◌∙◌, subst}
use Rattle.std.proofs.lemmas.List.{append_cancel_left, append_cancel_right}
use Rattle.http_routes.specs.Routes.{IsNumberText, HasNumber}

-- what stands between two texts is one text
pub one_middle : (before after x y : List ℕ) → before ++ (x ++ after) ≡ before ++ (y ++ after) → x ≡ y
one_middle before after x y e = append_cancel_right x y after (append_cancel_left before (x ++ after) (y ++ after) e)

-- the text between these two is that of a number, or there is none
pub number_there_or_not : (path before middle after : List ℕ) (r : Option ℕ) → path ≡ before ++ (middle ++ after)
    → MatchOption r ((n : ℕ) → IsNumberText middle n → ⊥) (λ n. IsNumberText middle n)
    → MatchOption r ((n : ℕ) → HasNumber path before n after → ⊥) (λ n. HasNumber path before n after)
number_there_or_not path before middle after None is none =
    λ n h. none n (subst (λ (l : List ℕ). IsNumberText l n) (one_middle before after h.text middle (sym h.place ∙ is)) h.number)
number_there_or_not path before middle after (Some n) is there = record { text = middle; place = is; number = there }
