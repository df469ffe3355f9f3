-- Lists: maps, filters and their order.
use Rattle.std.proofs.Common.{◌≡◌, ℕ, zero, suc, take, List, [], ◌∷◌, ◌++◌, map, filter, flat_map, Bool, true, Option, refl, ap, subst, ◌∙◌, arith, rules}
use Rattle.std.proofs.{lemmas.Grind.flat_map-append, lemmas.List.take-map}
use Rattle.std.specs.List.Sorted.{IsPermutation}
use Rattle.sqlite_trees.proofs.ListLemmas.{IsPermutation-filter, IsPermutation-flat_map, filter-map, flat_map-map}
use Rattle.sqlite_sql.specs.Query.{limited}
use Rattle.model_laws.proofs.Basics.{each-append, each-map, each_of_map}
use Rattle.desk_model.specs.Kept.{EachOf}
use Rattle.sql_tables.specs.Sorted.{sorted_by}
use Rattle.sql_tables.proofs.Sorting.{each_sorted}

-- a test that holds always
pub filter-all : {A : Type 0} (xs : List A) → filter (λ _. true) xs ≡ xs
filter-all [] = refl
filter-all (x ∷ xs) = ap (λ ys. x ∷ ys) (filter-all xs)

-- what holds of each item of these lists
pub each_flat : {X Y : Type 0} (P : Y → Type 0) (f : X → List Y) (xs : List X) → EachOf (λ x. EachOf P (f x)) xs → EachOf P (flat_map f xs)
each_flat P f [] h = tt
each_flat P f (x ∷ xs) h = each-append P (f x) (flat_map f xs) h.0 (each_flat P f xs h.1)

-- each item that passes a test does
pub each_passing : {X : Type 0} (test : X → Bool) (xs : List X) → EachOf (λ x. test x ≡ true) (filter test xs)
each_passing test [] = tt
each_passing {X} test (x ∷ xs) = grind (arith, (each_passing test xs))

-- ---- lists of lists

-- of each item of each
pub in_turn : {A B C : Type 0} (f : B → List C) (g : A → List B) (xs : List A) → flat_map f (flat_map g xs) ≡ flat_map (λ x. flat_map f (g x)) xs
in_turn f g [] = refl
in_turn f g (x ∷ xs) = flat_map-append f (g x) (flat_map g xs) ∙ ap (λ l. flat_map f (g x) ++ l) (in_turn f g xs)

-- the same of each
pub each_same : {A B : Type 0} (f g : A → List B) (xs : List A) → EachOf (λ x. f x ≡ g x) xs → flat_map f xs ≡ flat_map g xs
each_same f g [] h = refl
each_same f g (x ∷ xs) h = λ i. h.0 i ++ each_same f g xs h.1 i

-- what is made of the items that pass, in another order of these
pub part_moved : {X Y Z : Type 0} (f : Y → List Z) (test : Y → Bool) (g : X → Y) (xs : List X) (ys : List Y) → IsPermutation (map g xs) ys
    → IsPermutation (flat_map (λ x. f (g x)) (filter (λ x. test (g x)) xs)) (flat_map f (filter test ys))
part_moved f test g xs ys same =
    subst (λ zs. IsPermutation zs (flat_map f (filter test ys)))
    (ap (flat_map f) (filter-map test g xs) ∙ flat_map-map f g (filter (λ x. test (g x)) xs))
    (IsPermutation-flat_map f _ _ (IsPermutation-filter test (map g xs) ys same))

-- ---- lists that are cut

-- what holds of each item
pub each_take : {X : Type 0} (P : X → Type 0) (n : ℕ) (xs : List X) → EachOf P xs → EachOf P (take n xs)
each_take P zero [] h = tt
each_take P zero (x ∷ xs) h = tt
each_take P (suc n) [] h = tt
each_take P (suc n) (x ∷ xs) h = (h.0, each_take P n xs h.1)

-- up to a count
pub each_limited : {X : Type 0} (P : X → Type 0) (count : Option ℕ) (xs : List X) → EachOf P xs → EachOf P (limited count xs)
each_limited P count xs h = search (rules, each_take)

-- a map of these
pub limited-map : {X Y : Type 0} (f : X → Y) (count : Option ℕ) (xs : List X) → limited count (map f xs) ≡ map f (limited count xs)
limited-map f count xs = search (rules, take-map)

-- ---- rows by number

-- what holds of what a map gives of each row holds of what it gives of each sorted
pub each_map_sorted : {A B : Type 0} (key : A → ℕ) (f : A → B) (P : B → Type 0) (xs : List A) → EachOf P (map f xs) → EachOf P (map f (sorted_by key xs))
each_map_sorted key f P xs h = each-map P f (sorted_by key xs) (each_sorted key (λ x. P (f x)) xs (each_of_map P f xs h))
