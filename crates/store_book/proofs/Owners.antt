-- Rows under their owners, in whatever order the owners' numbers stand in them.
use Rattle.std.proofs.Common.{◌≡◌, ◌≢◌, ℕ, Bool, List, [], ◌∷◌, ◌++◌, map, filter, refl, sym, ap, subst, ◌∙◌, arith, rules}
use Rattle.std.proofs.lemmas.List.Sorted.{IsPermutation-append_right, IsPermutation-filter_both, IsPermutation-refl, IsPermutation-trans}
use Rattle.std.specs.{Prelude.◌==◌, Prelude.find, Prelude.not, Prelude.IsSome, List.flat_map, List.Sorted.IsPermutation}
use Rattle.store_columns.specs.{declared.columns.Owned.Owned, Flat.owned_by}
use Rattle.model_laws.specs.{Ordered.Ascends, Distinct.Distinct}
use Rattle.model_laws.proofs.Basics.{each-map, each_all, find-map}
use Rattle.model_laws.proofs.{Distinctness.ascends_distinct, Distinctness.distinct-map, Keeps.each-filter, RowLists.ascends_map}
use Rattle.desk_model.specs.Kept.{EachOf}
use Rattle.store_book.specs.{Nesting.IsNesting, Nesting.IsNestOf, Nesting.child_rows, BookRows.IsAmong}

-- whether a row is of this owner
abbrev pub is_of : {T : Type 0} → ℕ → Owned T → Bool
is_of n r = r.owner == n

-- the rows of an owner
abbrev pub rows_of : {T : Type 0} → ℕ → List (Owned T) → List T
rows_of n rs = map (λ r. r.row) (filter (is_of n) rs)

-- parents, each with its rows
abbrev pub with_rows : {P T : Type 0} → (P → ℕ) → (P → List T → P) → List (Owned T) → P → P
with_rows number with_children rs p = with_children p (rows_of (number p) rs)

-- ---- what holds of all rows holds of an owner's

pub each_of_owner : {T : Type 0} (P : T → Type 0) (n : ℕ) (rs : List (Owned T)) → EachOf (λ r. P r.row) rs → EachOf P (rows_of n rs)
each_of_owner P n rs h = each-map P (λ r. r.row) (filter (is_of n) rs) (each-filter (λ r. P r.row) (is_of n) rs h)

-- ---- a number among others

-- a number of one of some rows is found among them
pub found_among : {X : Type 0} (number : X → ℕ) (n : ℕ) (xs : List X) → IsAmong (map number xs) n → IsSome (find (λ x. number x == n) xs)
found_among {X} number n xs among = search (rules, find-map)

-- ---- the rows of all owners are all rows

-- the rows of an owner, under its number
owned_again : {T : Type 0} (n : ℕ) (rs : List (Owned T)) → owned_by n (rows_of n rs) ≡ filter (is_of n) rs
owned_again n [] = refl
owned_again {T} n (r ∷ rs) = grind (arith, (owned_again n rs))

-- those of one owner are not those of another
of_another : {T : Type 0} (m n : ℕ) → m ≢ n → (rs : List (Owned T)) → rows_of n (filter (λ r. not (is_of m r)) rs) ≡ rows_of n rs
of_another m n apart [] = refl
of_another {T} m n apart (r ∷ rs) = grind (arith, (of_another m n apart rs))

-- the rows of some owners
abbrev pub all_of : {T : Type 0} → List ℕ → List (Owned T) → List (Owned T)
all_of ns rs = flat_map (λ n. owned_by n (rows_of n rs)) ns

-- without those of another owner they are the same
others_same : {T : Type 0} (m : ℕ) (ns : List ℕ) (rs : List (Owned T)) → EachOf (λ n. m ≢ n) ns → all_of ns (filter (λ r. not (is_of m r)) rs) ≡ all_of ns rs
others_same m [] rs apart = refl
others_same m (n ∷ ns) rs apart = λ i. owned_by n (of_another m n apart.0 rs i) ++ others_same m ns rs apart.1 i

-- an owner that is not this one is among the others
owners_rest : {T : Type 0} (m : ℕ) (ms : List ℕ) (rs : List (Owned T)) → EachOf (λ r. IsAmong (m ∷ ms) r.owner) rs
    → EachOf (λ r. IsAmong ms r.owner) (filter (λ r. not (is_of m r)) rs)
owners_rest m ms [] h = tt
owners_rest {T} m ms (r ∷ rs) h = grind (arith, (owners_rest m ms rs h.1))

-- without an owner there are no rows
no_owners : {T : Type 0} (rs : List (Owned T)) → EachOf (λ r. IsAmong [] r.owner) rs → rs ≡ []
no_owners [] h = refl
no_owners (r ∷ rs) h = absurd (cc h.0)

-- the rows of owners that differ, where each row has one of these, are all rows
rows_of_all : {T : Type 0} (ns : List ℕ) (rs : List (Owned T)) → Distinct (λ n. n) ns → EachOf (λ r. IsAmong ns r.owner) rs → IsPermutation rs (all_of ns rs)
rows_of_all [] rs apart owners = subst (λ l. IsPermutation rs l) (no_owners rs owners) (IsPermutation-refl rs)
rows_of_all {T} (m ∷ ms) rs apart owners =
    let others = filter (λ r. not (is_of m r)) rs in
    let rest : IsPermutation others (all_of ms rs) =
    subst (IsPermutation others) (others_same m ms rs apart.0) (rows_of_all ms others apart.1 (owners_rest m ms rs owners)) in
    subst (λ l. IsPermutation rs (l ++ all_of ms rs)) (sym (owned_again m rs))
    (IsPermutation-trans rs (filter (is_of m) rs ++ others) (filter (is_of m) rs ++ all_of ms rs)
    (IsPermutation-filter_both (is_of m) (λ r. not (is_of m r)) (λ r. refl) rs)
    (IsPermutation-append_right (filter (is_of m) rs) others (all_of ms rs) rest))

-- ---- parents with their rows

-- the children of parents that have their rows
children_of : {P T : Type 0} (number : P → ℕ) (children : P → List T) (with_children : P → List T → P) → IsNesting number children with_children
    → (rs : List (Owned T)) (ps : List P) → child_rows number children (map (with_rows number with_children rs) ps) ≡ all_of (map number ps) rs
children_of number children with_children laws rs [] = refl
children_of number children with_children laws rs (p ∷ ps) =
    λ i. owned_by (laws.number_kept p (rows_of (number p) rs) i) (laws.children_are p (rows_of (number p) rs) i)
    ++ children_of number children with_children laws rs ps i

-- without them they are as they were
parents_of : {P T : Type 0} (number : P → ℕ) (children : P → List T) (with_children : P → List T → P) → IsNesting number children with_children
    → (rs : List (Owned T)) (ps : List P) → EachOf (λ p. children p ≡ []) ps
    → map (λ p. with_children p []) (map (with_rows number with_children rs) ps) ≡ ps
parents_of number children with_children laws rs [] bare = refl
parents_of number children with_children laws rs (p ∷ ps) bare =
    λ i. (laws.last_are p (rows_of (number p) rs) [] ∙ ap (with_children p) (sym bare.0) ∙ laws.same p) i
    ∷ parents_of number children with_children laws rs ps bare.1 i

-- parents by number with their rows are those of these parents and these rows
pub nests_of : {P T : Type 0} (number : P → ℕ) (children : P → List T) (with_children : P → List T → P) (child_number : T → ℕ)
    → IsNesting number children with_children → (ps : List P) (rs : List (Owned T)) → Ascends number 1 ps → EachOf (λ p. children p ≡ []) ps
    → EachOf (λ r. IsAmong (map number ps) r.owner) rs → ((n : ℕ) → Ascends child_number 1 (rows_of n rs))
    → IsNestOf number children with_children child_number ps rs (map (with_rows number with_children rs) ps)
nests_of number children with_children child_number laws ps rs up bare owners rising = record {
  parents_are = grind (arith, parents_of);
  rows_are = search (rules, children_of, rows_of_all, distinct-map, ascends_distinct);
  ascends = grind (arith, ascends_map);
  children_ascend = grind (arith, each-map, each_all);
}
