-- Nested rows with given parents and children: they are what nesting gives.
use Rattle.std.proofs.Common.{◌≡◌, ℕ, List, [], map, ◌∙◌, arith}
use Rattle.std.proofs.lemmas.List.Sorted.{IsPermutation-sym, IsPermutation-trans}
use Rattle.std.specs.List.Sorted.{IsSorted, IsPermutation}
use Rattle.model_laws.specs.Ordered.{Ascends}
use Rattle.model_laws.proofs.RowLists.{ascends_map}
use Rattle.store_columns.specs.declared.columns.Owned.{Owned}
use Rattle.store_book.specs.Nesting.{IsNesting, IsNestOf, by_owner, child_rows, nested}
use Rattle.store_book.proofs.OrderedRows.{by_owner-total, same_ascending, strictly-children}
use Rattle.store_book.proofs.{NestedRows.nested-flat, SortedLists.same_sorted, SortedLists.same_strictly}

-- parents of rows by number stand by number
parents-ascend : {P T : Type 0} (number : P → ℕ) (children : P → List T) (with_children : P → List T → P) → IsNesting number children with_children →
    (ps : List P) → Ascends number 1 ps → Ascends number 1 (map (λ p. with_children p []) ps)
parents-ascend number children with_children laws ps up = ascends_map number number (λ p. with_children p []) (λ p. laws.number_kept p []) 1 ps up

-- parents by number and sorted children are those of the rows that they come from
pub sorted-flat : {P T : Type 0} (number : P → ℕ) (children : P → List T) (with_children : P → List T → P) (child_number : T → ℕ) →
    IsNesting number children with_children → (parents : List P) (rows cs : List (Owned T)) (ps : List P) → Ascends number 1 parents →
    IsPermutation rows cs → IsSorted (by_owner child_number) cs → IsNestOf number children with_children child_number parents rows ps →
    nested number with_children parents cs ≡ ps
sorted-flat number children with_children child_number laws parents rows cs ps up permuted rising nest =
    let same_parents = same_ascending number 1 1 parents (map (λ p. with_children p []) ps) up
    (parents-ascend number children with_children laws ps nest.ascends) nest.parents_are in
    let same_children = same_sorted (by_owner child_number) (by_owner-total child_number) cs (child_rows number children ps) rising
    (strictly-children number children child_number 1 ps nest.ascends nest.children_ascend)
    (IsPermutation-trans cs rows (child_rows number children ps) (IsPermutation-sym rows cs permuted) nest.rows_are) in
    (λ i. nested number with_children (same_parents i) (same_children i)) ∙ nested-flat number children with_children laws 1 ps nest.ascends

-- there is but one such list
pub same_nest : {P T : Type 0} (number : P → ℕ) (children : P → List T) (with_children : P → List T → P) (child_number : T → ℕ) →
    IsNesting number children with_children → (parents : List P) (rows : List (Owned T)) (ps qs : List P) →
    IsNestOf number children with_children child_number parents rows ps → IsNestOf number children with_children child_number parents rows qs → ps ≡ qs
same_nest number children with_children child_number laws parents rows ps qs left right = grind (
  arith,
  nested-flat,
  (same_ascending number 1 1 (map (λ p. with_children p []) ps) (map (λ p. with_children p []) qs)
      (parents-ascend number children with_children laws ps left.ascends) (parents-ascend number children with_children laws qs right.ascends)
      (IsPermutation-trans (map (λ p. with_children p []) ps) parents (map (λ p. with_children p []) qs)
      (IsPermutation-sym parents (map (λ p. with_children p []) ps) left.parents_are) right.parents_are)),
  (same_strictly (by_owner child_number) (by_owner-total child_number) (child_rows number children ps) (child_rows number children qs)
      (strictly-children number children child_number 1 ps left.ascends left.children_ascend)
      (strictly-children number children child_number 1 qs right.ascends right.children_ascend)
      (IsPermutation-trans (child_rows number children ps) rows (child_rows number children qs)
      (IsPermutation-sym rows (child_rows number children ps) left.rows_are) right.rows_are)),
  (nested-flat number children with_children laws 1 ps left.ascends),
)
