-- What orders list after one of them is put.
use Rattle.std.specs.{Prelude.IfSome, Prelude.find, Prelude.◌==◌, List.flat_map, List.Sorted.IsPermutation}
use Rattle.std.proofs.Common.{◌≡◌, ◌≢◌, ℕ, ◌++◌, List, [], ◌∷◌, map, Option, Some, None, false, refl, sym, ap, subst, ◌∙◌, arith}
use Rattle.std.proofs.lemmas.List.Sorted.{IsPermutation-sym, IsPermutation-trans, IsPermutation-append_left, IsPermutation-append_right}
use Rattle.std.proofs.lemmas.List.Sorted.{IsPermutation-append_comm}
use Rattle.std.proofs.lemmas.{Grind.flat_map-append, List.append_assoc, List.Folds.flat_map-map}
use Rattle.sqlite_rules.specs.Lists.{Has}
use Rattle.store_columns.specs.{Flat.listed_rows, Flat.owned_by, declared.columns.Owned.Owned}
use Rattle.model_laws.proofs.{Basics.each_parts}
use Rattle.model_laws.specs.Ordered.{Ascends}
use Rattle.desk_model.specs.{Change.put, declared.rows.Listed.Listed, declared.rows.OrderRow.OrderRow}
use Rattle.sql_write.specs.Makes.{ArePlaced}
use Rattle.sql_write.proofs.{InPlace.put_alike, Numbered.part_of_put, Numbered.put_parts, StoredRows.found_has}
use Rattle.sql_write.proofs.PlacedRows.{has_flat, has_parts, has_through, new_rows, owners_apart, stays}
use Rattle.sql_tables.specs.{Effects.is_same_place, Holds.AreApart, Layouts.IsRising, Hidden.number, Hidden.row_of}
use Rattle.sql_tables.proofs.{Upsert.has_map, Upsert.image_of}

-- the number of an order
abbrev number_of : OrderRow → ℕ
number_of o = o.number

-- the order of this number
abbrev order_at : ℕ → List OrderRow → Option OrderRow
order_at n os = find (λ o. o.number == n) os

-- the parts of a list that is apart
pub apart_parts : (xs ys : List (Owned Listed)) → AreApart (xs ++ ys) → AreApart xs × AreApart ys
apart_parts [] ys h = (tt, h)
apart_parts (x ∷ xs) ys h = let rest = apart_parts xs ys h.1 in (((each_parts (λ k. is_same_place x k ≡ false) xs ys h.0).0, rest.0), rest.1)

-- ---- an order that is there and lists the same

-- the rows stay, and its own are among them
pub found_in : (n : ℕ) (x : OrderRow) (os : List OrderRow) (o : OrderRow) → Ascends number_of n os → order_at x.number os ≡ Some o → o.listed ≡ x.listed
    → (listed_rows (put number_of x os) ≡ listed_rows os) × ((l : Owned Listed) → Has (owned_by x.number x.listed) l → Has (listed_rows os) l)
found_in n x os o up found kept =
    let own = λ (p : OrderRow). owned_by p.number p.listed in
    let there = found_has number_of x.number os o found in
    let alike : own x ≡ own o = λ i. owned_by (sym there.1 i) (sym kept i) in (
      sym (flat_map-map (λ ls. ls) own (put number_of x os))
          ∙ ap (flat_map (λ ls. ls)) (put_alike number_of own x o n os up there.0 there.1 (sym alike))
          ∙ flat_map-map (λ ls. ls) own os,
      λ l h. has_flat own os o l there.0 (subst (λ ls. Has ls l) alike h),
    )

-- ---- a new order

-- no row is of an order that is not there
none_own : (x : OrderRow) (os : List OrderRow) → order_at x.number os ≡ None → (l : Owned Listed) → Has (listed_rows os) l → l.owner ≢ x.number
none_own x [] none l h e = h
none_own x (p ∷ ps) none l h e = grind (arith, has_parts, image_of, (none_own x ps))

-- rows of one order are its own
owned_are : (n : ℕ) (ls : List Listed) (l : Owned Listed) → Has (owned_by n ls) l → l.owner ≡ n
owned_are n ls l h = let at = image_of _ ls l h in ap (λ (k : Owned Listed). k.owner) at.2

-- what it lists goes between two parts of what was listed
pub listed_parts : (x : OrderRow) (os : List OrderRow) → order_at x.number os ≡ None
    → (pre : List (Owned Listed)) × (post : List (Owned Listed)) × (listed_rows os ≡ pre ++ post)
    × (listed_rows (put number_of x os) ≡ pre ++ (owned_by x.number x.listed ++ post))
listed_parts x os none =
    let it = put_parts number_of x os in (
      listed_rows it.pre,
      listed_rows it.post,
      ap listed_rows (it.new none) ∙ flat_map-append _ it.pre it.post,
      ap listed_rows it.put_is ∙ flat_map-append _ it.pre (x ∷ it.post),
    )

-- its rows are added
pub added : (x : OrderRow) (os : List OrderRow) → order_at x.number os ≡ None
    → IsPermutation (listed_rows os ++ owned_by x.number x.listed) (listed_rows (put number_of x os))
added x os none =
    let it = listed_parts x os none in
    let own = owned_by x.number x.listed in
    subst (λ ls. IsPermutation ls (listed_rows (put number_of x os))) (sym (ap (λ ls. ls ++ own) it.2 ∙ append_assoc it.0 it.1 own))
    (subst (IsPermutation (it.0 ++ (it.1 ++ own))) (sym it.3) (IsPermutation-append_right it.0 _ _ (IsPermutation-append_comm it.1 own)))

-- they are apart where all are
own_apart : (x : OrderRow) (os : List OrderRow) → AreApart (listed_rows (put number_of x os)) → AreApart (owned_by x.number x.listed)
own_apart x os = part_of_put number_of (λ o. owned_by o.number o.listed) AreApart apart_parts x os

-- ---- either

-- the rows placed are those that the orders list then, in some order
pub listed_after : (x : OrderRow) (orders : List OrderRow) (ts after : List (ℕ × Owned Listed)) → IsRising number_of orders → IsRising number ts
    → IsPermutation (map row_of ts) (listed_rows orders) → AreApart (listed_rows orders) → AreApart (listed_rows (put number_of x orders))
    → IfSome (order_at x.number orders) (λ o. o.listed ≡ x.listed) → ArePlaced (owned_by x.number x.listed) ts after
    → IsPermutation (map row_of after) (listed_rows (put number_of x orders))
listed_after x orders ts after rising up same apart apart_after kept placed = go (order_at x.number orders) refl kept
  where
    go : (found : Option OrderRow) → order_at x.number orders ≡ found → IfSome found (λ o. o.listed ≡ x.listed)
        → IsPermutation (map row_of after) (listed_rows (put number_of x orders))
    go None is k =
        let none = λ (l : Owned Listed) (h : Has (owned_by x.number x.listed) l) (t : ℕ × Owned Listed) (in_t : Has ts t).
        let back = IsPermutation-sym (map row_of ts) (listed_rows orders) same in
        let there = has_through (listed_rows orders) (map row_of ts) t.1 back (has_map row_of ts t in_t) in
        owners_apart l t.1 (λ e. none_own x orders is t.1 there (sym e ∙ owned_are x.number x.listed l h)) in
        let grown = new_rows (owned_by x.number x.listed) ts after up (own_apart x orders apart_after) none placed in
        subst (λ ls. IsPermutation ls (listed_rows (put number_of x orders))) (sym grown)
        (IsPermutation-trans _ _ _ (IsPermutation-append_left (owned_by x.number x.listed) _ _ same) (added x orders is))
    go (Some o) is k =
        let there = found_in 0 x orders o rising is k in
        let unmoved = stays (listed_rows orders) (owned_by x.number x.listed) ts after up same apart there.1 placed in
        subst (λ us. IsPermutation (map row_of us) (listed_rows (put number_of x orders))) (sym unmoved)
        (subst (IsPermutation (map row_of ts)) (sym there.0) same)
