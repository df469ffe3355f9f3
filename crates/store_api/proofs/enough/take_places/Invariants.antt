use Rattle.std.proofs.Common.{◌≡◌, ◌++◌, map}
use Rattle.store_api.proofs.Places.{listed_at, standing_at}
use Rattle.store_api.specs.Needing.{lacking}
use Rattle.desk_model.specs.declared.rows.AuthorizationRow.{AuthorizationRow}
use Rattle.store_api.proofs.enough.take_places.Given as goal

abbrev pub invariant-loop-found : goal.invariant-loop-found
invariant-loop-found l = record {
  taken : l.listed.items ++ map listed_at l.found-iterator.rest.items ≡ map listed_at l.fn.places.items;
  put : lacking (λ (r : AuthorizationRow). r.number) (map standing_at l.found-iterator.rest.items) l.authorizations
      ≡ lacking (λ (r : AuthorizationRow). r.number) (map standing_at l.fn.places.items) l.fn.authorizations;
}
