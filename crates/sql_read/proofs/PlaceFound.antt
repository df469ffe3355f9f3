-- What the look-up of places finds: what each order that waits lists, by place, each beside its authorization.
use Rattle.std.proofs.Common.{◌≡◌, pos, Bool, cond, List, [], ◌∷◌, map, filter, refl, ap, ◌∙◌, arith}
use Rattle.std.proofs.lemmas.Simd.{map-map}
use Rattle.std.specs.Prelude.{◌==◌}
use Rattle.sqlite.specs.{Held.Held, Held.state, Store.Ghosts, declared.types.Value.TheVariants.Int}
use Rattle.sqlite_sql.specs.Program.{overlay}
use Rattle.store_columns.specs.{Flat.listed_rows, Flat.owned_by, Flat.without_challenges, Limits.IsStoredListed, declared.columns.Owned.Owned}
use Rattle.store_book.specs.IsBook.{IsStoredBook}
use Rattle.model_laws.specs.Ordered.{Ascends}
use Rattle.model_laws.proofs.{Basics.each, Basics.each-append, Basics.each-map, Basics.each_all, Basics.each_parts, Keeps.each-filter, RowLists.ascends_filter}
use Rattle.model_parts.specs.LookUps.{bare_authorizations, orders_processing}
use Rattle.desk_model.specs.{Kept.EachOf, Tables.Tables, declared.rows.AuthorizationRow.AuthorizationRow, declared.rows.Listed.Listed}
use Rattle.desk_model.specs.declared.rows.OrderRow.{OrderRow}
use Rattle.sql_tables.specs.Holds.{Holds}
use Rattle.sql_read.specs.declared.formats.Format.TheVariants.{Second}
use Rattle.sql_read.proofs.Beside.{HasOne, each_beside, each_pair, firsts, of_each, one_found, pairs, pairs_strictly}
use Rattle.sql_read.proofs.PlaceRows.{asked, authorization_at, bare_place, gathered, place_facts, place_match, waits}
use Rattle.sql_read.proofs.{FoundRows.FindsIn, FoundRows.are_kept, FoundRows.finds_matched, KeptRows.authorizations_kept, ListedOrder.listed_strictly}
use Rattle.sql_read.proofs.{ListedOrder.ranks, LookUpReadings.places_reading, PlaceParts.Place, TableFacts.authorization_facts, UnderLemmas.orders_own}
use Rattle.sql_schema.specs.declared.listed.TheConstants as ord_authz

-- ---- lists

-- what is so of what all orders list is so of what some of them do
each_kept : (P : Owned Listed → Type 0) (p : OrderRow → Bool) (os : List OrderRow) → EachOf P (listed_rows os) → EachOf P (listed_rows (filter p os))
each_kept P p [] h = tt
each_kept P p (o ∷ os) h =
    let parts = each_parts P (owned_by o.number o.listed) (listed_rows os) h in by (p o) parts.0 (each_kept P p os parts.1)
  where
    by : (b : Bool) → EachOf P (owned_by o.number o.listed) → EachOf P (listed_rows (filter p os))
        → EachOf P (listed_rows (cond b (o ∷ filter p os) (filter p os)))
    by b l k = grind (arith, each-append)

-- ---- in a database

-- what the orders that wait list
abbrev found_places : Tables → List (Owned Listed)
found_places T = listed_rows (orders_processing T)

-- each place beside its authorization
abbrev place_pairs : Tables → List Place
place_pairs T = pairs authorization_at (λ a. a.number) T.authorizations (found_places T)

-- which has no challenges
abbrev pub place_rows : Tables → List Place
place_rows T = map bare_place (place_pairs T)

module _ {S : Type 0} (g : Ghosts S) (old : Held S) (T : Tables) (has : Holds (state g old).now T) (book : IsStoredBook T) where
  -- each has one authorization
  one : EachOf (HasOne authorization_at (λ a. a.number) T.authorizations) (found_places T)
  one =
      each_kept (HasOne authorization_at (λ a. a.number) T.authorizations) waits T.orders
      (of_each (λ (o : OrderRow). o.number) (λ o. o.listed) (HasOne authorization_at (λ a. a.number) T.authorizations) T.orders
      (each _ _ T.orders
      (λ o there.
      each _ _ o.listed (λ l is. one_found (λ (a : AuthorizationRow). a.number) 0 l.authorization T.authorizations has.rising.authorizations is) there)
      book.book.sound.references.listed))

  -- they are found, by order, then by place
  pub places_find : FindsIn place_facts g (ord_authz.SELECT_JOINED.now, asked) old (place_rows T)
  places_find =
      let rows = T.authorizations in
      let os = orders_processing T in
      let ts = has.listed.numbered in
      let ls = found_places T in
      let kept = are_kept authorization_facts (authorizations_kept _ T Second has) book in
      finds_matched place_facts g places_reading refl old has.schema
      (place_match rows ts (overlay (state g old).now.trees []) has.authorizations has.listed.has T.orders has.orders)
      (λ x. Int (pos x.0.owner) ∷ Int (pos x.0.row.place) ∷ []) (place_pairs T) (
        each_pair authorization_at (λ a. a.number) rows _ _ ls (each_kept IsStoredListed waits T.orders book.stored.listed) kept.0,
        each _ _ (place_pairs T) (λ x texts. texts.1)
            (each_pair authorization_at (λ a. a.number) rows (λ _. Unit {0}) _ ls (each_all (λ _. Unit {0}) ls (λ _. tt)) kept.1),
      )
      (gathered rows ts (listed_rows T.orders) has.listed.same os
      (each-filter (λ (o : OrderRow). filter (λ l. l.owner == o.number) (listed_rows T.orders) ≡ owned_by o.number o.listed) waits T.orders
      (orders_own 0 T.orders has.rising.orders)))
      (pairs_strictly authorization_at (λ a. a.number) rows ranks ls one
      (listed_strictly 0 os (ascends_filter (λ (o : OrderRow). o.number) waits 0 T.orders has.rising.orders)
      (each-filter (λ (o : OrderRow). Ascends (λ l. l.place) 1 o.listed) waits T.orders book.book.in_order.places)))

  -- ---- in the tables

  -- they are what these orders list, each beside the authorization of its number
  pub are_places : (map (λ p. p.0) (place_rows T) ≡ listed_rows (orders_processing T))
      × EachOf (λ p. (p.1.number ≡ p.0.row.authorization) × (bare_authorizations T p.1.number ≡ p.1 ∷ [])) (place_rows T)
  are_places =
      let xs = place_pairs T in (
        map-map (λ (p : Place). p.0) bare_place xs ∙ firsts authorization_at (λ a. a.number) T.authorizations (found_places T) one,
        each-map (λ (p : Place). (p.1.number ≡ p.0.row.authorization) × (bare_authorizations T p.1.number ≡ p.1 ∷ [])) bare_place xs
            (each _ _ xs
            (λ x it. (
              it.1,
              ap (λ n. map without_challenges (filter (λ (r : AuthorizationRow). r.number == n) T.authorizations)) it.1
                  ∙ ap (map without_challenges) it.0,
            ))
            (each_beside authorization_at (λ a. a.number) T.authorizations (found_places T) one)),
      )
