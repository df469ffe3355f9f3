use Rattle.std.proofs.Common.{◌≡◌}
use Rattle.std.specs.{Prelude.Ok, List.flat_map}
use Rattle.model_laws.specs.Placing.{puts}
use Rattle.store_api.specs.Finding.{Finds}
use Rattle.model_parts.specs.Loaded.{authorizations_for}
use Rattle.store_api.proofs.named.add_each_named.Given as goal

abbrev pub invariant-loop-account : goal.invariant-loop-account
invariant-loop-account g l =
    Finds g.S.Kept.sight {A = Unit {0}} l.fn.source l.source (Ok tt) (λ T.
    puts (λ r. r.number) (flat_map (λ x. flat_map (authorizations_for T x.number) l.names) l.account-iterator) l.authorizations
    ≡ puts (λ r. r.number) (flat_map (λ x. flat_map (authorizations_for T x.number) l.names) l.accounts) l.fn.authorizations)
