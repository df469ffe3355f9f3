use Rattle.std.proofs.Common.{◌≡◌, [], ◌∷◌, ap, map, subst, sym, ◌∙◌}
use Rattle.store_columns.specs.Flat.{listed_rows}
use Rattle.desk_model.specs.Kept.{EachOf}
use Rattle.model_parts.specs.LookUps.{bare_authorizations, orders_processing}
use Rattle.sql_schema.specs.declared.listed.TheConstants as ord_authz
use Rattle.sql_read.proofs.{LookUpReadings.places_reading, LookUpReadings.text, Looking.finds_as, Looking.looked, Looking.query_as, PlaceFound.are_places}
use Rattle.sql_read.proofs.{PlaceFound.place_rows, PlaceFound.places_find}
use Rattle.sql_read.proofs.places.processing_places.Goals as goal

pub find_rows-requires : goal.find_rows-requires
find_rows-requires g c =
    query_as (c.text-query.ensures ∙ ap (λ t. (ord_authz.SELECT_JOINED.now, text t)) c.as_str-waiting.ensures) places_reading.selecting

pub returns : goal.returns
returns g c =
    looked place_rows
    (λ T has book.
    finds_as (c.text-query.ensures ∙ ap (λ t. (ord_authz.SELECT_JOINED.now, text t)) c.as_str-waiting.ensures)
    (places_find g.S.Store c.args.conn.now T has book))
    (λ T has book rows are.
    subst
    (λ l. (map (λ p. p.0) l ≡ listed_rows (orders_processing T))
    × EachOf (λ p. (p.1.number ≡ p.0.row.authorization) × (bare_authorizations T p.1.number ≡ p.1 ∷ [])) l) (sym are)
    (are_places g.S.Store c.args.conn.now T has book)) c.find_rows.ensures
