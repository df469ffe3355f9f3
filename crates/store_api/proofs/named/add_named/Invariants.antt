use Rattle.std.proofs.Common.{◌≡◌, drop}
use Rattle.std.specs.{Prelude.Ok, List.flat_map}
use Rattle.model_laws.specs.Placing.{puts}
use Rattle.store_api.specs.Finding.{Finds}
use Rattle.model_parts.specs.Loaded.{authorizations_for}
use Rattle.store_api.proofs.named.add_named.Given as goal

abbrev pub invariant-loop-name : goal.invariant-loop-name
invariant-loop-name g l =
    Finds g.S.Kept.sight {A = Unit {0}} l.fn.source l.source (Ok tt) (λ T.
    puts (λ r. r.number) (flat_map (authorizations_for T l.account) (drop l.name-index l.names)) l.authorizations
    ≡ puts (λ r. r.number) (flat_map (authorizations_for T l.account) l.names) l.fn.authorizations)
