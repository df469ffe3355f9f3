use Rattle.std.proofs.{Common.◌+◌, Common.◌∙◌, Common.List, Common.[], Common.◌∷◌, Common.ap, Common.sym, Common.drop, lemmas.List.at_drop_more}
use Rattle.http_routes.specs.{Router.with_routes, declared.routes.Route.Route}
use Rattle.http_routes.specs.declared.routes.Route.TheVariants as route
use Rattle.http_routes.proofs.routes.add_all.Goals as goal

-- all routes, in their order
abbrev routes : List Route
routes =
    route.Directory ∷ route.NewNonce ∷ route.NewAccount ∷ route.KeyChange ∷ route.NewOrder ∷ route.Account ∷ route.Orders ∷ route.Order ∷ route.Finalize ∷
    route.Cert ∷ route.Authz ∷ route.Chall ∷ route.Key ∷ route.ChallengeWork ∷ route.OrderWork ∷ route.Report ∷ route.Certify ∷ route.FailOrder ∷
    route.RevokeAuthz ∷ route.RevokeAccount ∷ route.Page ∷ route.Look ∷ route.Metrics ∷ route.Backup ∷ []

pub loop-route-preserved : goal.loop-route-preserved
loop-route-preserved c =
    ap (λ rows. with_routes rows (drop (c.loop-route.route-index + 1) routes)) c.in_ok-add.ensures
    ∙ sym (at_drop_more (with_routes c.loop-route.router) routes c.loop-route.route-index route.Directory c.loop-route-test.true)
    ∙ c.loop-route.invariant
