-- What the orders that wait list, each place beside its authorization: the authorizations that are put are those that are worked on.
use Rattle.std.proofs.Common.{◌≡◌, ◌++◌, ℕ, List, [], ◌∷◌, map, refl, sym, ap, ◌∙◌}
use Rattle.std.proofs.lemmas.{List.map-append, Simd.map-map}
use Rattle.std.specs.List.{filter, flat_map}
use Rattle.desk_model.specs.{Derived.numbers_of, Kept.EachOf, Tables.Tables}
use Rattle.desk_model.specs.declared.rows.{AuthorizationRow.AuthorizationRow, Listed.Listed, OrderRow.OrderRow}
use Rattle.model_laws.proofs.Basics.{each, each-map, map-each}
use Rattle.model_laws.specs.Ordered.{IsOrdered}
use Rattle.model_parts.specs.{IsEnough.is_worked_on, Thinned.without_challenges, LookUps.bare_authorizations, LookUps.orders_processing}
use Rattle.store_columns.specs.{Flat.listed_rows, Flat.owned_by, declared.columns.Owned.Owned}
use Rattle.store_api.proofs.{Lacking.worked_on, Missing.lacking_missings}
use Rattle.store_api.specs.Needing.{lacking, missings}

-- what is listed at a place, under its order
abbrev pub listed_at : Owned Listed × AuthorizationRow → Owned Listed
listed_at p = p.0

-- the authorization beside it
abbrev pub standing_at : Owned Listed × AuthorizationRow → AuthorizationRow
standing_at p = p.1

-- the number that is listed
abbrev number_at : Owned Listed → ℕ
number_at l = l.row.authorization

-- those of orders
listed_numbers : (os : List OrderRow) → map number_at (listed_rows os) ≡ flat_map (λ o. numbers_of o.listed) os
listed_numbers [] = refl
listed_numbers (o ∷ os) =
    map-append number_at (owned_by o.number o.listed) (listed_rows os)
    ∙ (λ i. map-map number_at (λ l. record { owner = o.number; row = l }) o.listed i ++ listed_numbers os i)

-- those beside all places are worked on
pub places_put : (T : Tables) → IsOrdered T → (ps : List (Owned Listed × AuthorizationRow)) → map listed_at ps ≡ listed_rows (orders_processing T)
    → EachOf (λ p. (p.1.number ≡ p.0.row.authorization) × (bare_authorizations T p.1.number ≡ p.1 ∷ [])) ps
    → lacking (λ r. r.number) (map standing_at ps) [] ≡ map without_challenges (filter (is_worked_on T) T.authorizations)
places_put T h ps are own =
    let number = λ (r : AuthorizationRow). r.number in
    lacking_missings number (bare_authorizations T) (map standing_at ps)
    (each-map (λ r. bare_authorizations T r.number ≡ r ∷ []) standing_at ps (each _ _ ps (λ p it. it.1) own)) []
    ∙ ap (λ ns. missings number (bare_authorizations T) ns [])
    (map-map number standing_at ps
    ∙ map-each (λ p. number (standing_at p)) (λ p. number_at (listed_at p)) ps (each _ _ ps (λ p it. it.0) own)
    ∙ sym (map-map number_at listed_at ps)
    ∙ ap (map number_at) are
    ∙ listed_numbers (orders_processing T))
    ∙ worked_on T h
