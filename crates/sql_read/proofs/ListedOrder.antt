-- What orders list stands by order, then by place; what a look-up finds of it.
use Rattle.std.proofs.Common.{◌≡◌, ℕ, ◌+◌, ◌<◌, pos, List, [], ◌∷◌, ◌++◌, map, filter, Ordering, Less, refl, subst, ◌∙◌, arith, rules}
use Rattle.std.proofs.lemmas.List.{Kept.IsStrictlySortedBy-filter, Sorted.IsPermutation-map, map-id}
use Rattle.std.specs.{Prelude.◌==◌, List.AllByRecursion, List.Sorted.IsStrictlySortedBy}
use Rattle.sqlite.specs.{declared.types.Value.TheVariants.Int, Held.Held, Held.state, Store.Ghosts}
use Rattle.sqlite_value.proofs.OrderLemmas.{value_cmp-Int}
use Rattle.sqlite_trees.proofs.ListLemmas.{IsPermutation-filter}
use Rattle.sqlite_sql.specs.Query.{Output, output_cmp}
use Rattle.store_columns.specs.{Limits.IsStoredListed, Flat.listed_rows, Flat.owned_by, declared.columns.Owned.Owned}
use Rattle.model_laws.proofs.{Keeps.each-filter, Basics.each_all}
use Rattle.model_laws.specs.Ordered.{Ascends}
use Rattle.desk_model.specs.{Kept.EachOf, Tables.Tables, declared.rows.Listed.Listed, declared.rows.OrderRow.OrderRow}
use Rattle.sql_tables.specs.{Hidden.hidden, Hidden.row_of, Holds.Holds, Images.listed_cells}
use Rattle.sql_read.specs.{Bounded.bounded, Queries.number}
use Rattle.store_book.specs.IsBook.{IsStoredBook}
use Rattle.sql_schema.specs.declared.listed.TheConstants as ord_authz
use Rattle.sql_read.proofs.{Answered.by, Answered.matched, Answered.picked, FoundRows.FindsIn, FoundRows.filter-each, FoundRows.finds_matched}
use Rattle.sql_read.proofs.{LookUpReadings.is_equal, LookUpReadings.listed_by_reading, TableColumns.listed_project, TableFacts.listed_facts}
use Rattle.sql_read.proofs.Tests.{number_test, same_bounded}

-- ---- by order, then by place

-- a row beside its order and its place
abbrev pub placed : Owned Listed → Output
placed l = (Int (pos l.owner) ∷ Int (pos l.row.place) ∷ [], listed_cells l)

-- how a query orders two rows
abbrev pub ranks : Owned Listed → Owned Listed → Ordering
ranks l k = output_cmp (picked 6 [] listed_project (by 1 ∷ by 2 ∷ [])) (placed l) (placed k)

-- a lower order comes first
lower_order : (l k : Owned Listed) → l.owner < k.owner → ranks l k ≡ Less
lower_order l k low = search (rules, value_cmp-Int)

-- and in one order a lower place
lower_place : (n : ℕ) (l k : Listed) → l.place < k.place
    → ranks (record { owner = n; row = l }) (record { owner = n; row = k }) ≡ Less
lower_place n l k low = search (rules, value_cmp-Int)

-- rows of higher orders
abbrev AreAbove : ℕ → List (Owned Listed) → Type 0
AreAbove n rows = AllByRecursion (λ k. n < k.owner) rows

-- what an order lists from a place on, and then higher orders, is behind a lower place
all_behind : (n p : ℕ) (l : Listed) (ls : List Listed) (rest : List (Owned Listed)) → l.place < p → Ascends (λ k. k.place) p ls
    → AreAbove n rest
    → AllByRecursion (λ k. ranks (record { owner = n; row = l }) k ≡ Less) (owned_by n ls ++ rest)
all_behind n p l [] [] low up above = tt
all_behind n p l [] (k ∷ rest) low up above =
    (lower_order (record { owner = n; row = l }) k above.0, all_behind n p l [] rest low up above.1)
all_behind n p l (k ∷ ls) rest low up above =
    (lower_place n l k (omega (arith, low, up.0)), all_behind n (k.place + 1) l ls rest (omega (arith, low, up.0)) up.1 above)

-- what an order lists, and then what higher orders list, is in strict order
order_first : (n p : ℕ) (ls : List Listed) (rest : List (Owned Listed)) → Ascends (λ k. k.place) p ls → AreAbove n rest
    → IsStrictlySortedBy ranks rest → IsStrictlySortedBy ranks (owned_by n ls ++ rest)
unfolding IsStrictlySortedBy
order_first n p [] rest up above sorted = sorted
order_first n p (l ∷ ls) rest up above sorted =
    (all_behind n (l.place + 1) l ls rest (omega arith) up.1 above, order_first n (l.place + 1) ls rest up.1 above sorted)

-- what orders list whose numbers ascend is above a lower number
listed_above : (k n : ℕ) (os : List OrderRow) → k < n → Ascends (λ o. o.number) n os → AreAbove k (listed_rows os)
listed_above k n [] low up = tt
listed_above k n (o ∷ os) low up = own o.listed (listed_above k (o.number + 1) os (omega (arith, low, up.0)) up.1)
  where
    own : (ls : List Listed) → AreAbove k (listed_rows os) → AreAbove k (owned_by o.number ls ++ listed_rows os)
    own [] rest = rest
    own (l ∷ ls) rest = (omega (arith, low, up.0), own ls rest)

-- what orders list is in strict order, where their numbers ascend, and the places of each
pub listed_strictly : (n : ℕ) (os : List OrderRow) → Ascends (λ o. o.number) n os → EachOf (λ o. Ascends (λ l. l.place) 1 o.listed) os
    → IsStrictlySortedBy ranks (listed_rows os)
unfolding IsStrictlySortedBy
listed_strictly n [] up places = tt
listed_strictly n (o ∷ os) up places = grind (arith, order_first, listed_above, (listed_strictly (o.number + 1) os up.1 places.1))

-- ---- look-ups

-- what an order lists is found in this order
pub listed_by_find : {S : Type 0} (g : Ghosts S) (old : Held S) (T : Tables) → Holds (state g old).now T → IsStoredBook T → (n : ℕ)
    → FindsIn listed_facts g (ord_authz.SELECT_OF.now, number n) old (filter (λ l. l.owner == n) (listed_rows T.orders))
listed_by_find g old T has book n =
    let ts = has.listed.numbered in
    let ls = listed_rows T.orders in
    let sql = λ (l : Owned Listed). l.owner == bounded n in
    subst (FindsIn listed_facts g (ord_authz.SELECT_OF.now, number n) old)
    (map-id (filter sql ls) ∙ filter-each IsStoredListed sql (λ l. l.owner == n) (λ l k. same_bounded l.owner n k.order.1) ls book.stored.listed)
    (finds_matched listed_facts g (listed_by_reading n) refl old has.schema
    (matched (hidden listed_cells) row_of 6 (is_equal 1) listed_project (by 1 ∷ by 2 ∷ []) (number n) sql placed (λ t. number_test t.1.owner (bounded n))
    (λ _. refl) (λ _. refl) (state g old).now.trees ts has.listed.has)
    (λ l. Int (pos l.owner) ∷ Int (pos l.row.place) ∷ []) (filter sql ls)
    (each-filter IsStoredListed sql ls book.stored.listed, each_all (λ _. Unit {0}) (filter sql ls) (λ _. tt))
    (IsPermutation-map placed _ _ (IsPermutation-filter sql (map row_of ts) ls has.listed.same))
    (IsStrictlySortedBy-filter ranks sql ls (listed_strictly 0 T.orders has.rising.orders book.book.in_order.places)))
