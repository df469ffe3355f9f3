-- Rows under the rows that they belong to.
use Rattle.std.specs.Prelude.{ℕ, ◌≡◌, ◌==◌, List, [], ◌∷◌, cond, map}
use Rattle.std.specs.{List.flat_map, List.Sorted.IsPermutation, Ordering.nat_cmp, Ordering.ordering_then, declared.cmp.Ordering.Ordering}
use Rattle.desk_model.specs.Kept.{EachOf}
use Rattle.model_laws.specs.Ordered.{Ascends}
use Rattle.store_columns.specs.{declared.columns.Owned.Owned, Flat.owned_by}

-- what a row's children are, and the row with others
pub record IsNesting {P T : Type 0} (number : P → ℕ) (children : P → List T) (with_children : P → List T → P) : Type 0 where
  pub number_kept : (p : P) (ts : List T) → number (with_children p ts) ≡ number p
  pub children_are : (p : P) (ts : List T) → children (with_children p ts) ≡ ts
  pub last_are : (p : P) (ts us : List T) → with_children (with_children p ts) us ≡ with_children p us
  pub same : (p : P) → with_children p (children p) ≡ p

-- the order by a number
abbrev pub by_number : {X : Type 0} → (X → ℕ) → X → X → Ordering
by_number number x y = nat_cmp (number x) (number y)

-- the order by the owner, then by a number
abbrev pub by_owner : {T : Type 0} → (T → ℕ) → Owned T → Owned T → Ordering
by_owner number x y = ordering_then (nat_cmp x.owner y.owner) (nat_cmp (number x.row) (number y.row))

-- the children of rows, under their numbers
abbrev pub child_rows : {P T : Type 0} → (P → ℕ) → (P → List T) → List P → List (Owned T)
child_rows number children rows = flat_map (λ p. owned_by (number p) (children p)) rows

-- the first rows of an owner
abbrev pub first_of : {T : Type 0} → ℕ → List (Owned T) → List T
first_of n [] = []
first_of n (r ∷ rs) = cond (r.owner == n) (r.row ∷ first_of n rs) []

-- the rows behind them
abbrev pub behind : {T : Type 0} → ℕ → List (Owned T) → List (Owned T)
behind n [] = []
behind n (r ∷ rs) = cond (r.owner == n) (behind n rs) (r ∷ rs)

-- rows, each with the first children of those that the rows before it left
abbrev pub nested : {P T : Type 0} → (P → ℕ) → (P → List T → P) → List P → List (Owned T) → List P
nested number with_children [] rs = []
nested number with_children (p ∷ ps) rs = with_children p (first_of (number p) rs) ∷ nested number with_children ps (behind (number p) rs)

-- rows by number with these parents and these children, those of each by number
pub record IsNestOf {P T : Type 0} (number : P → ℕ) (children : P → List T) (with_children : P → List T → P) (child_number : T → ℕ)
    (parents : List P) (rows : List (Owned T)) (ps : List P) : Type 0 where
  pub parents_are : IsPermutation parents (map (λ p. with_children p []) ps)
  pub rows_are : IsPermutation rows (child_rows number children ps)
  pub ascends : Ascends number 1 ps
  pub children_ascend : EachOf (λ p. Ascends child_number 1 (children p)) ps
