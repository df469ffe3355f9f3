-- The number of a URL, by its path.
use Rattle.std.proofs.Common.{◌≡◌, ◌≢◌, ℕ, List, [], ◌++◌, Option, Some, None, codes, ◌∙◌, inl, inr, subst, sym}
use Rattle.std.proofs.lemmas.List.{append_cancel_left, append_cancel_left}
use Rattle.std.specs.Prelude.{MatchOption}
use Rattle.http_routes.specs.Routes.{HasNumber}
use Rattle.desk_http.specs.Logged.{IsLocated, IsPathOf, IsUrlOf}

-- the number of a URL is that of its path
pub located_by : (base url path : List ℕ) (o : Option ℕ) → url ≡ base ++ path
    → MatchOption o ((n : ℕ) → IsPathOf path n → ⊥) (λ n. IsPathOf path n)
    → MatchOption o ((n : ℕ) → IsUrlOf base url n → ⊥) (λ n. IsUrlOf base url n)
located_by base url path None is none =
    λ n u. none n (subst (λ (p : List ℕ). IsPathOf p n) (append_cancel_left base u.0 path (sym u.1 ∙ is)) u.2)
located_by base url path (Some n) is there = (path, is, there)

-- what does not begin so is no URL of the base
pub not_located : (base url : List ℕ) → ((rest : List ℕ) → url ≢ base ++ rest) → (n : ℕ) → IsUrlOf base url n → ⊥
not_located base url none n u = none u.0 u.1

-- where a path is not of an account, its number is that of an order
pub order_or_none : (path : List ℕ) (o : Option ℕ) → ((n : ℕ) → HasNumber path (codes "/account/") n [] → ⊥)
    → MatchOption o ((n : ℕ) → HasNumber path (codes "/order/") n [] → ⊥) (λ n. HasNumber path (codes "/order/") n [])
    → MatchOption o ((n : ℕ) → IsPathOf path n → ⊥) (λ n. IsPathOf path n)
order_or_none path None first second = neither
  where
    neither : (n : ℕ) → IsPathOf path n → ⊥
    neither n (inl of_account) = first n of_account
    neither n (inr of_order) = second n of_order
order_or_none path (Some n) first second = inr second

-- the number of the URL of a Location is the one that it locates
pub located_at : (base : List ℕ) (location : Option (List ℕ)) (url text : List ℕ) (o : Option ℕ) → location ≡ Some url → text ≡ url
    → MatchOption o ((n : ℕ) → IsUrlOf base text n → ⊥) (λ n. IsUrlOf base text n) → IsLocated base location o
located_at base location url text o is same found =
    subst (λ (x : Option (List ℕ)). IsLocated base x o) (sym is)
    (subst (λ (u : List ℕ). MatchOption o ((n : ℕ) → IsUrlOf base u n → ⊥) (λ n. IsUrlOf base u n)) same found)
