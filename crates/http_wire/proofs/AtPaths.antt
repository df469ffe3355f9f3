-- Each shown URL is served.
use Rattle.std.proofs.Common.{ℕ, List, ◌++◌, codes, decimal, [], true, refl, append_assoc, rules}
use Rattle.desk_model.specs.Terms.{Terms}
use Rattle.http_routes.specs.Routes.{HasNumber, IsPathText, IsResourceAt, is_numbered, resource_of}
use Rattle.http_routes.specs.declared.routes.{Resource.Resource, Route.Route}
use Rattle.http_routes.specs.declared.routes.Route.TheVariants as route
use Rattle.http_routes.proofs.{Leads.at_end, Leads.between, Leads.leads_to, Resources.one_resource}
use Rattle.http_wire.specs.{UrlLaws.ShownUrlsAreServed, Served.IsServed}

-- the resource of a route is served at the URL of its path
at_path : (t : Terms) (path : List ℕ) (r : Route) (n : ℕ) → IsPathText (is_numbered r) path r n → IsServed t (resource_of r n) (t.base ++ path)
at_path t path r n text =
    let there : IsResourceAt path (resource_of r n) = leads_to path r n text in
    record { path = path; place = refl; leads = there; alone = λ y other. one_resource path y (resource_of r n) other there }

-- and at a URL whose path goes on behind its number
goes_on : (t : Terms) (n : ℕ) (before after : List ℕ) (x : Resource) → IsResourceAt (before ++ (decimal n ++ after)) x
    → IsServed t x ((t.base ++ (before ++ decimal n)) ++ after)
goes_on t n before after x there = search (rules, append_assoc, one_resource)

-- each shown URL is served
pub are_served : ShownUrlsAreServed
are_served t n first last =
    let ends : (before : List ℕ) → HasNumber (before ++ decimal n) before n [] = at_end n first last in
    let orders : IsPathText true (codes "/account/" ++ (decimal n ++ codes "/orders")) route.Orders n = between n first last _ _ in
    let finalize : IsPathText true (codes "/order/" ++ (decimal n ++ codes "/finalize")) route.Finalize n = between n first last _ _ in
    record {
      directory = at_path t _ route.Directory 0 (refl, refl);
      new_account = at_path t _ route.NewAccount 0 (refl, refl);
      new_nonce = at_path t _ route.NewNonce 0 (refl, refl);
      key_change = at_path t _ route.KeyChange 0 (refl, refl);
      new_order = at_path t _ route.NewOrder 0 (refl, refl);
      account = at_path t _ route.Account n (ends (codes "/account/"));
      orders = goes_on t n (codes "/account/") (codes "/orders") _ (leads_to _ route.Orders n orders);
      order = at_path t _ route.Order n (ends (codes "/order/"));
      finalize = goes_on t n (codes "/order/") (codes "/finalize") _ (leads_to _ route.Finalize n finalize);
      certificate = at_path t _ route.Cert n (ends (codes "/cert/"));
      authorization = at_path t _ route.Authz n (ends (codes "/authz/"));
      challenge = at_path t _ route.Chall n (ends (codes "/chall/"));
    }
