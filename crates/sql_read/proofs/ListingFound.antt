-- What the look-up of the orders that list an authorization finds: each as often as it lists it.
use Rattle.std.proofs.Common.{◌≡◌, ◌==◌, ℕ, pos, List, [], ◌∷◌, map, filter, flat_map, refl, subst, sym, ap, ◌∙◌, rules}
use Rattle.std.proofs.lemmas.{List.Kept.IsStrictlySortedBy-filter, List.Sorted.IsPermutation-sym, Simd.map-map}
use Rattle.std.specs.List.Sorted.{IsPermutation}
use Rattle.sqlite.specs.{Held.Held, Held.state, Store.Ghosts, declared.types.Value.TheVariants.Int}
use Rattle.sqlite_trees.proofs.ListLemmas.{flat_map-map}
use Rattle.sqlite_sql.specs.Program.{overlay}
use Rattle.store_columns.specs.{Flat.listed_rows, Flat.without_listed, Limits.IsStoredListed, declared.columns.Owned.Owned}
use Rattle.store_book.proofs.KeyedRows.{each_moved}
use Rattle.model_laws.proofs.{Basics.each, Basics.each_all, Basics.each_of_map, Keeps.each-filter}
use Rattle.desk_model.specs.{Kept.EachOf, Tables.Tables, declared.rows.Listed.Listed, declared.rows.OrderRow.OrderRow}
use Rattle.model_parts.specs.LookUps.{orders_listing, orders_numbered}
use Rattle.store_book.specs.IsBook.{IsStoredBook}
use Rattle.sql_schema.specs.declared.orders.TheConstants as ord
use Rattle.sql_tables.specs.{Hidden.row_of, Holds.Holds}
use Rattle.sql_read.specs.{Queries.number, Under.HasItsListed, declared.formats.Format.TheVariants.Second}
use Rattle.sql_read.proofs.Beside.{each_pair, map-pairs, one_owner, owner, pairs, pairs_strictly, seconds, told_by}
use Rattle.sql_read.proofs.{FoundRows.FindsIn, FoundRows.are_kept, FoundRows.finds_matched, KeptRows.orders_kept, ListedOrder.listed_strictly}
use Rattle.sql_read.proofs.{ListedOrder.ranks, ListingRows.listing_facts, ListingRows.listing_match, ListingRows.of_place, ListingRows.shown, Lists.each_flat}
use Rattle.sql_read.proofs.{Lists.part_moved, LookUpReadings.listing_reading, TableFacts.order_facts, UnderLemmas.listing_is, UnderLemmas.orders_have}

-- the order of each place that lists the authorization
abbrev pub listing_orders : Tables → ℕ → List OrderRow
listing_orders T n = flat_map (told_by owner (λ o. o.number) T.orders) (filter (λ l. l.row.authorization == n) (listed_rows T.orders))

-- what is so of each order
of_each_order : (P : OrderRow → Type 0) (T : Tables) (n : ℕ) → EachOf P T.orders → EachOf P (listing_orders T n)
of_each_order P T n h = search (rules, each_flat, each_all, each-filter)

-- they are those of the model
pub listing_are : (T : Tables) (n : ℕ) → listing_orders T n ≡ flat_map (orders_numbered T) (orders_listing T n)
listing_are T n = search (rules, flat_map-map, listing_is)

module _ {S : Type 0} (g : Ghosts S) (old : Held S) (T : Tables) (has : Holds (state g old).now T) where
  -- each has what it lists
  pub listing_have : (n : ℕ) → EachOf (HasItsListed T.orders) (listing_orders T n)
  listing_have n = of_each_order (HasItsListed T.orders) T n (orders_have 0 T.orders has.rising.orders)

  -- they are found, without what they list
  pub listing_find : IsStoredBook T → (n : ℕ)
      → FindsIn order_facts.rows g (ord.SELECT_LISTING.now, number n) old (map without_listed (listing_orders T n))
  listing_find book n =
      let os = T.orders in
      let ls = listed_rows os in
      let ts = has.listed.numbered in
      let test = λ (l : Owned Listed). l.row.authorization == n in
      let xs = pairs owner (λ (o : OrderRow). o.number) os (filter test ls) in
      let all = each_all (λ _. Unit {0}) (filter test ls) (λ _. tt) in
      let kept = are_kept order_facts (orders_kept _ T Second has) book in
      let stored = each_of_map IsStoredListed row_of ts (each_moved IsStoredListed ls (map row_of ts) (IsPermutation-sym (map row_of ts) ls has.listed.same)
      book.stored.listed) in
      subst (FindsIn order_facts.rows g (ord.SELECT_LISTING.now, number n) old)
      (sym (map-map without_listed (λ (x : Owned Listed × OrderRow). x.1) xs)
      ∙ ap (map without_listed) (seconds owner (λ (o : OrderRow). o.number) os (filter test ls)))
      (finds_matched listing_facts g (listing_reading n) refl old has.schema
      (listing_match (overlay (state g old).now.trees []) os has.orders n ts has.listed.has stored)
      (λ x. Int (pos x.0.owner) ∷ Int (pos x.0.row.place) ∷ []) xs (
        each _ _ xs (λ x p. p.1) (each_pair owner (λ o. o.number) os (λ _. Unit {0}) _ (filter test ls) all kept.0),
        each _ _ xs (λ x p. p.1) (each_pair owner (λ o. o.number) os (λ _. Unit {0}) _ (filter test ls) all kept.1),
      )
      (subst (IsPermutation _) (map-pairs owner (λ o. o.number) os shown (filter test ls))
      (part_moved (of_place os) test row_of ts ls has.listed.same))
      (pairs_strictly owner (λ o. o.number) os ranks (filter test ls)
      (each-filter _ test ls (one_owner (λ (o : OrderRow). o.number) (λ o. o.listed) 0 os has.rising.orders))
      (IsStrictlySortedBy-filter ranks test ls (listed_strictly 0 os has.rising.orders book.book.in_order.places))))
