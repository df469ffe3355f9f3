-- The resource of a path, by the route that the router finds.
use Rattle.std.proofs.Common.{◌≡◌, ℕ, Bool, List, arith, subst, Some, None, Option}
use Rattle.std.proofs.lemmas.Fmt.{decimal_injective}
use Rattle.std.specs.Prelude.{option_map}
use Rattle.matchit.specs.Seek.{first}
use Rattle.http_routes.proofs.{Finding.desk_routes_are_found, Numbers.fits, Places.one_middle}
use Rattle.http_routes.specs.Routes.{IsPathText, IsResourceAt, is_numbered}
use Rattle.http_routes.specs.{Router.desk_routes, Router.value_of, declared.routes.Resource.Resource, declared.routes.Route.Route}

-- a path of a route has one number
one_number : (b : Bool) (path : List ℕ) (r : Route) (n m : ℕ) → IsPathText b path r n → IsPathText b path r m → n ≡ m
one_number b path r n m x y = grind (arith, one_middle, decimal_injective, fits)

-- what is found is one route
one_value : (o : Option Route) (r s : Route) → o ≡ Some r → o ≡ Some s → r ≡ s
one_value o r s x y = cc

-- a path leads to one resource at most
pub one_resource : (path : List ℕ) (x y : Resource) → IsResourceAt path x → IsResourceAt path y → x ≡ y
one_resource path x y a b = grind (arith, desk_routes_are_found, one_number)

-- where no route is found, there is no resource
pub none_found : (path : List ℕ) → option_map value_of (first desk_routes path) ≡ None → (x : Resource) → IsResourceAt path x → ⊥
none_found path none x at =
    let found : option_map value_of (first desk_routes path) ≡ Some at.route = desk_routes_are_found path at.route at.number at.text in cc

-- nor where the path is not of the route that is found
pub other_found : (path : List ℕ) (r : Route) → option_map value_of (first desk_routes path) ≡ Some r
    → ((n : ℕ) → IsPathText (is_numbered r) path r n → ⊥) → (x : Resource) → IsResourceAt path x → ⊥
other_found path r found none x at =
    let e : at.route ≡ r = one_value (option_map value_of (first desk_routes path)) at.route r (desk_routes_are_found path at.route at.number at.text) found in
    let P : Route → Type 0 = λ s. IsPathText (is_numbered s) path s at.number in
    none at.number (subst P e at.text)
