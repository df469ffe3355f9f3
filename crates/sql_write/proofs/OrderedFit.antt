-- Changes fit where no two children of the tables with all of them are one.
use Rattle.std.proofs.Common.{◌≡◌, ◌≢◌, ℕ, ◌+◌, ◌<◌, ◌≤◌, ◌++◌, List, [], ◌∷◌, false, arith, rules}
use Rattle.store_columns.specs.{Flat.listed_rows, Flat.owned_by, declared.columns.Owned.Owned}
use Rattle.model_laws.proofs.{Basics.each, Basics.each-append, Basics.each-map, Basics.each_all, RowLists.ascends_above}
use Rattle.model_laws.specs.Ordered.{Ascends}
use Rattle.desk_model.specs.{Kept.EachOf, declared.rows.Listed.Listed, declared.rows.OrderRow.OrderRow}
use Rattle.sql_write.specs.Fitting.{OrderedChangesFit}
use Rattle.sql_write.proofs.{ChallengeNumbers.challenges_differ_under, PlacedRows.owners_apart}
use Rattle.sql_tables.specs.{Effects.is_same_place, Holds.AreApart}

-- ---- places

-- two places of one order
places_apart : (a b : Owned Listed) → a.row.place ≢ b.row.place → is_same_place a b ≡ false
places_apart a b apart = search rules

-- what an order lists at rising places is apart
apart_own : (n m : ℕ) (ls : List Listed) → Ascends (λ l. l.place) m ls → AreApart (owned_by n ls)
apart_own n m [] up = tt
apart_own n m (l ∷ ls) up =
    let row : Owned Listed = record { owner = n; row = l } in
    let above = ascends_above (λ (l : Listed). l.place) l.place (l.place + 1) ls (omega arith) up.1 in (
      each-map (λ k. is_same_place row k ≡ false) (λ (k : Listed). record { owner = n; row = k }) ls
          (each _ _ ls (λ k low. places_apart row (record { owner = n; row = k }) (λ e. omega (arith, e, low))) above),
      apart_own n (l.place + 1) ls up.1,
    )

-- a row of a lower order is apart from those of orders that rise above it
apart_later : (m : ℕ) (os : List OrderRow) (l : Owned Listed) → l.owner < m → Ascends (λ o. o.number) m os
    → EachOf (λ k. is_same_place l k ≡ false) (listed_rows os)
apart_later m [] l low up = tt
apart_later m (o ∷ os) l low up =
    let first : m ≤ o.number = up.0 in
    each-append (λ k. is_same_place l k ≡ false) (owned_by o.number o.listed) (listed_rows os)
    (each-map (λ k. is_same_place l k ≡ false) (λ (k : Listed). record { owner = o.number; row = k }) o.listed
    (each_all _ o.listed (λ k. owners_apart l (record { owner = o.number; row = k }) (λ e. omega (arith, e, low, first)))))
    (apart_later (o.number + 1) os l (omega arith) up.1)

-- what an order lists, before the lists of orders that rise above it
apart_joined : (n m : ℕ) (ls : List Listed) (os : List OrderRow) → n < m → Ascends (λ o. o.number) m os → AreApart (owned_by n ls) → AreApart (listed_rows os)
    → AreApart (owned_by n ls ++ listed_rows os)
apart_joined n m [] os low up a b = b
apart_joined n m (l ∷ ls) os low up a b = (
  each-append (λ k. is_same_place (record { owner = n; row = l }) k ≡ false) (owned_by n ls) (listed_rows os) a.0
      (apart_later m os (record { owner = n; row = l }) low up),
  apart_joined n m ls os low up a.1 b,
)

-- what orders that rise list at rising places is apart
apart_listed : (m : ℕ) (os : List OrderRow) → Ascends (λ o. o.number) m os → EachOf (λ o. Ascends (λ l. l.place) 1 o.listed) os → AreApart (listed_rows os)
apart_listed m [] up places = tt
apart_listed m (o ∷ os) up places = grind (arith, apart_joined, apart_own, (apart_listed (o.number + 1) os up.1 places.1))

-- ---- tables

-- changes that keep children fit where the tables with all of them stand by number, and their challenges differ
pub ordered_fit : OrderedChangesFit
ordered_fit T changes kept stand = search (rules, challenges_differ_under, apart_listed)
