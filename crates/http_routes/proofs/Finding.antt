-- The router of the desk finds each of its paths.
use Rattle.std.proofs.Common.{◌≡◌, ℕ, suc, ◌<◌, ◌≤◌, List, [], ◌∷◌, ◌++◌, length, Some, refl, cond, codes, decimal, arith, ap}
use Rattle.std.proofs.lemmas.Fmt.{decimal_is_IsNumeral}
use Rattle.std.specs.{Prelude.option_map, Str.Parse.AllDigits}
use Rattle.matchit.specs.{Rows.RowsOf, Router.RouteOf, Route.scan, Seek.first, Seek.seek, Seek.param_step}
use Rattle.http_routes.specs.Routes.{HasNumber, IsPathText, is_numbered, prefix, suffix}
use Rattle.http_routes.specs.{Router.add_route, Router.desk_routes, Router.value_of, declared.routes.Route.Route}
use Rattle.http_routes.specs.declared.routes.Route.TheVariants as route
use Rattle.http_routes.proofs.Seeking.{steps, seek_by, number_alone, number_at_end, number_before}
use Rattle.desk_model.specs.Limits.{last_number}

-- what the router keeps of a route with a number
abbrev kept : Route → RouteOf Route
kept r =
    record {
      pattern = prefix r ++ (256 ∷ suffix r);
      text = prefix r ++ (codes "{n}" ++ suffix r);
      names = (suc (length (prefix r)), suc (suc (length (prefix r)))) ∷ [];
      value = r;
    }

-- the rows behind the beginning of a path: this route alone
abbrev Alone : Route → Type 0
Alone r = steps (prefix r) desk_routes ≡ (256 ∷ [], kept r) ∷ []

-- two routes, of which one goes on behind the number
abbrev Both : Route → Route → Type 0
Both long short = steps (prefix short) desk_routes ≡ (256 ∷ suffix long, kept long) ∷ (256 ∷ [], kept short) ∷ []

-- what the router has for the paths of a route: the route itself, where they have no number
abbrev Behind : Route → Type 0
Behind route.Account = Both route.Orders route.Account
Behind route.Orders = Both route.Orders route.Account
Behind route.Order = Both route.Finalize route.Order
Behind route.Finalize = Both route.Finalize route.Order
Behind r = cond (is_numbered r) (Alone r) (option_map value_of (first desk_routes (prefix r)) ≡ Some r)

-- route by route
behind : (r : Route) → Behind r
unfolding add_route scan seek param_step
behind r = grind arith

-- ---- the number of a path

-- a number is found by what is found of each text of digits
by_digits : {K : Type 0} (path before after : List ℕ) (n : ℕ) (rows : RowsOf K) (k : K) → HasNumber path before n after
    → ((d : ℕ) (ds : List ℕ) → AllDigits 10 (d ∷ ds) → seek 0 (steps before rows) (d ∷ ds ++ after) ≡ Some k)
    → first rows path ≡ Some k
by_digits {K} path before after n rows k h found =
    let last : n ≤ last_number = h.number.last in
    let numeral = decimal_is_IsNumeral n (omega arith) in
    rw (h.place, h.number.digits) (seek_by before rows (decimal n ++ after) k (of_text (decimal n) numeral.0.1 numeral.0.0))
  where
    of_text : (t : List ℕ) → AllDigits 10 t → 0 < length t → seek 0 (steps before rows) (t ++ after) ≡ Some k
    of_text [] digits some = absurd (omega (arith, some))
    of_text (d ∷ ds) digits some = found d ds digits

-- ---- the routes of the desk

-- a path is found whose route stands alone
found_alone : (r : Route) → Alone r → (path : List ℕ) (n : ℕ) → HasNumber path (prefix r) n [] → option_map value_of (first desk_routes path) ≡ Some r
found_alone r is path n h =
    ap (option_map value_of) (by_digits path (prefix r) [] n desk_routes (kept r) h (λ d ds digits. rw is (number_alone d ds (kept r) digits)))

module _ (long short : Route) (w : List ℕ) (is : steps (prefix short) desk_routes ≡ (256 ∷ 47 ∷ w, kept long) ∷ (256 ∷ [], kept short) ∷ [])
    (path : List ℕ) (n : ℕ) where
  -- or is the shorter of two
  found_shorter : HasNumber path (prefix short) n [] → option_map value_of (first desk_routes path) ≡ Some short
  found_shorter h =
      ap (option_map value_of)
      (by_digits path (prefix short) [] n desk_routes (kept short) h (λ d ds digits. rw is (number_at_end d ds w (kept long) (kept short) digits)))

  -- or the longer
  found_longer : seek 0 ((47 ∷ w, kept long) ∷ []) (47 ∷ w) ≡ Some (kept long) → HasNumber path (prefix short) n (47 ∷ w)
      → option_map value_of (first desk_routes path) ≡ Some long
  found_longer there h =
      ap (option_map value_of)
      (by_digits path (prefix short) (47 ∷ w) n desk_routes (kept long) h
      (λ d ds digits. rw is (number_before d ds w (kept long) (kept short) digits there)))

-- each path of a route is found to be of it
pub desk_routes_are_found : (path : List ℕ) (r : Route) (n : ℕ) → IsPathText (is_numbered r) path r n
    → option_map value_of (first desk_routes path) ≡ Some r
unfolding seek param_step
desk_routes_are_found path route.Directory n h = rw (h.0) (behind route.Directory)
desk_routes_are_found path route.NewNonce n h = rw (h.0) (behind route.NewNonce)
desk_routes_are_found path route.NewAccount n h = rw (h.0) (behind route.NewAccount)
desk_routes_are_found path route.KeyChange n h = rw (h.0) (behind route.KeyChange)
desk_routes_are_found path route.NewOrder n h = rw (h.0) (behind route.NewOrder)
desk_routes_are_found path route.Account n h = found_shorter route.Orders route.Account (codes "orders") (behind route.Account) path n h
desk_routes_are_found path route.Orders n h = found_longer route.Orders route.Account (codes "orders") (behind route.Orders) path n refl h
desk_routes_are_found path route.Order n h = found_shorter route.Finalize route.Order (codes "finalize") (behind route.Order) path n h
desk_routes_are_found path route.Finalize n h = found_longer route.Finalize route.Order (codes "finalize") (behind route.Finalize) path n refl h
desk_routes_are_found path route.Cert n h = found_alone route.Cert (behind route.Cert) path n h
desk_routes_are_found path route.Authz n h = found_alone route.Authz (behind route.Authz) path n h
desk_routes_are_found path route.Chall n h = found_alone route.Chall (behind route.Chall) path n h
desk_routes_are_found path route.Key n h = found_alone route.Key (behind route.Key) path n h
desk_routes_are_found path route.ChallengeWork n h = rw (h.0) (behind route.ChallengeWork)
desk_routes_are_found path route.OrderWork n h = rw (h.0) (behind route.OrderWork)
desk_routes_are_found path route.Report n h = found_alone route.Report (behind route.Report) path n h
desk_routes_are_found path route.Certify n h = found_alone route.Certify (behind route.Certify) path n h
desk_routes_are_found path route.FailOrder n h = found_alone route.FailOrder (behind route.FailOrder) path n h
desk_routes_are_found path route.RevokeAuthz n h = found_alone route.RevokeAuthz (behind route.RevokeAuthz) path n h
desk_routes_are_found path route.RevokeAccount n h = found_alone route.RevokeAccount (behind route.RevokeAccount) path n h
desk_routes_are_found path route.Page n h = rw (h.0) (behind route.Page)
desk_routes_are_found path route.Look n h = rw (h.0) (behind route.Look)
desk_routes_are_found path route.Metrics n h = rw (h.0) (behind route.Metrics)
desk_routes_are_found path route.Backup n h = rw (h.0) (behind route.Backup)
