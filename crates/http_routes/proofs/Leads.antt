-- The paths that lead to the resources.
use Rattle.std.proofs.Common.{ℕ, ◌≤◌, List, [], ◌++◌, codes, decimal, refl, append-nil, arith}
use Rattle.http_routes.specs.Routes.{HasNumber, IsPathText, IsResourceAt, is_numbered, resource_of}
use Rattle.http_routes.specs.declared.routes.Route.{Route}
use Rattle.desk_model.specs.Limits.{last_number}

-- a path of a route leads to its resource
pub leads_to : (path : List ℕ) (r : Route) (n : ℕ) → IsPathText (is_numbered r) path r n → IsResourceAt path (resource_of r n)
leads_to path r n text = record { route = r; number = n; text = text; leads = refl }

module _ (n : ℕ) (first : 1 ≤ n) (last : n ≤ last_number) where
  -- a path with the number between these texts
  pub between : (before after : List ℕ) → HasNumber (before ++ (decimal n ++ after)) before n after
  between before after = record { text = decimal n; place = refl; number = record { digits = refl; first = first; last = last } }

  -- a path that ends with it
  pub at_end : (before : List ℕ) → HasNumber (before ++ decimal n) before n []
  at_end before = grind (arith, append-nil)
