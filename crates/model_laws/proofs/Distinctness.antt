-- Lists without repetition, and their parts.
use Rattle.std.proofs.Common.{◌≡◌, ◌≢◌, ◌<◌, ℕ, ◌+◌, List, [], ◌∷◌, ◌++◌, map, sym, arith}
use Rattle.desk_model.specs.Kept.{EachOf}
use Rattle.model_laws.specs.{Distinct.Distinct, Ordered.Ascends}
use Rattle.model_laws.proofs.{Basics.each, Basics.each_both, Basics.each_of_map, Basics.each_parts, Basics.each-append, Basics.each-map, RowLists.ascends_above}

-- lists that share no value
pub distinct-append : {X Y : Type 0} (value : X → Y) (xs ys : List X) → Distinct value xs → Distinct value ys →
    EachOf (λ x. EachOf (λ y. value x ≢ value y) ys) xs → Distinct value (xs ++ ys)
distinct-append value [] ys h k g = k
distinct-append value (x ∷ xs) ys h k g = (each-append _ xs ys h.0 g.0, distinct-append value xs ys h.1 k g.1)

-- values of mapped items
pub distinct-map : {X Y Z : Type 0} (value : Y → Z) (f : X → Y) (xs : List X) → Distinct (λ x. value (f x)) xs → Distinct value (map f xs)
distinct-map value f [] h = tt
distinct-map value f (x ∷ xs) h = (each-map _ f xs h.0, distinct-map value f xs h.1)

-- items whose numbers ascend differ
pub ascends_distinct : {X : Type 0} (number : X → ℕ) (n : ℕ) (xs : List X) → Ascends number n xs → Distinct number xs
ascends_distinct number n [] h = tt
ascends_distinct number n (x ∷ xs) h = (
  each _ _ xs (λ y p same. let lt : number x < number y = p in let e : number x ≡ number y = same in omega arith)
      (ascends_above number (number x) (number x + 1) xs (omega arith) h.1),
  ascends_distinct number (number x + 1) xs h.1,
)

-- items whose values, listed, differ
pub map-distinct : {X Y : Type 0} (value : X → Y) (xs : List X) → Distinct (λ y. y) (map value xs) → Distinct value xs
map-distinct value [] h = tt
map-distinct value (x ∷ xs) h = (each_of_map (λ y. value x ≢ y) value xs h.0, map-distinct value xs h.1)

-- the items of two lists differ within each and from those of the other
pub distinct_parts : {X Y : Type 0} (value : X → Y) (xs ys : List X) → Distinct value (xs ++ ys) →
    Distinct value xs × EachOf (λ x. EachOf (λ y. value x ≢ value y) ys) xs × Distinct value ys
distinct_parts value [] ys h = (tt, tt, h)
distinct_parts value (x ∷ xs) ys h =
    let first = each_parts (λ y. value x ≢ value y) xs ys h.0 in
    let rest = distinct_parts value xs ys h.1 in
    ((first.0, rest.0), (first.1, rest.1), rest.2)

-- what holds of each pair, from the other side
pub each_pair : {X Y : Type 0} (R : X → Y → Type 0) (xs : List X) (ys : List Y) → EachOf (λ x. EachOf (R x) ys) xs → EachOf (λ y. EachOf (λ x. R x y) xs) ys
each_pair R xs [] h = tt
each_pair R xs (y ∷ ys) h = (each _ _ xs (λ x p. p.0) h, each_pair R xs ys (each _ _ xs (λ x p. p.1) h))

-- items between others differ from these, and without them the others still do
pub between : {X Y : Type 0} (value : X → Y) (xs ys zs : List X) → Distinct value (xs ++ (ys ++ zs)) →
    Distinct value (xs ++ zs) × Distinct value ys × EachOf (λ y. EachOf (λ z. value y ≢ value z) (xs ++ zs)) ys
between value xs ys zs h =
    let outer = distinct_parts value xs (ys ++ zs) h in
    let inner = distinct_parts value ys zs outer.2 in
    let before = each_pair (λ x y. value x ≢ value y) xs ys (each _ _ xs (λ x p. (each_parts (λ y. value x ≢ value y) ys zs p).0) outer.1) in
    let behind = each _ _ xs (λ x p. (each_parts (λ y. value x ≢ value y) ys zs p).1) outer.1 in (
      distinct-append value xs zs outer.0 inner.2 behind,
      inner.0,
      each _ _ ys (λ y p. each-append (λ z. value y ≢ value z) xs zs (each _ _ xs (λ x differs same. differs (sym same)) p.0) p.1)
          (each_both (λ y. EachOf (λ x. value x ≢ value y) xs) (λ y. EachOf (λ z. value y ≢ value z) zs) ys before inner.1),
    )
