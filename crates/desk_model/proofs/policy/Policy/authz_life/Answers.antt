use Rattle.desk_model.specs.Terms.{Terms}
use Rattle.desk_model.proofs.Lives.{lives_limited}
use Rattle.desk_model.proofs.policy.Policy.authz_life.Goals as goal

pub returns-clause-limit : goal.returns-clause-limit
returns-clause-limit c =
    let p = c.self.inside in
    let terms : Terms = record { base = p.base; nonce_life = p.nonce_life; order_life = p.order_life; authz_life = p.authz_life } in
    (lives_limited terms c.self.invariant).2
