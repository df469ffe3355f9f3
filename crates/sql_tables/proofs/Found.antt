-- A query of one table by its key.
use Rattle.std.proofs.Common.{◌≡◌, ℕ, ℤ, pos, negsuc, ◌&&◌, ◌++◌, if◌then◌else◌, List, [], ◌∷◌, map, flat_map, Bool, true, false, None, Some, refl, ap, subst}
use Rattle.std.proofs.Common.{◌∙◌, cond, int_cmp, rules}
use Rattle.std.proofs.{lemmas.List.Sorted.length_permutation, lemmas.List.nil_from_length}
use Rattle.std.specs.{Ordering.is_eq, List.list_all, List.Sorted.IsPermutation}
use Rattle.sqlite.specs.declared.types.Value.TheVariants.{Int}
use Rattle.sqlite_value.specs.{declared.keys.Collation.TheVariants.Binary, Order.Row, Order.column}
use Rattle.sqlite_value.proofs.OrderLemmas.{value_cmp-Int}
use Rattle.sqlite_trees.specs.Tree.{Trees, rowid}
use Rattle.sqlite_sql.specs.Term.{Term, Env, lit, col, op2, eval_all, holds}
use Rattle.sqlite_sql.specs.Query.{Query, Output, inner, end, IsAnswer, output, page}
use Rattle.sqlite_sql.specs.{declared.ops.BinaryOp.TheVariants.Compare, declared.ops.CompareOp.TheVariants.Eq, Ops.binary, Ops.is_true, Ops.from_truth}
use Rattle.sqlite.proofs.Callers.{one_permutation}
use Rattle.sql_tables.proofs.Keyed.{with_key, three}

-- the rows of a table whose key is the parameter at a place
abbrev pub by_key : ℕ → ℕ → List Term → Query
by_key tree at project = record {
  from = inner tree end;
  filter = op2 (Compare Eq Binary) (col 1 0) (col 0 at) ∷ [];
  group = None;
  project = project;
  distinct = false;
  collations = [];
  order = [];
  limit = lit (Int (negsuc 0));
  offset = lit (Int (pos 0));
}

-- a truth that is known is told
pub told : (b : Bool) → is_true (from_truth (Some b)) ≡ b
told b = search rules

-- SQL's `=` of two numbers
pub equal_is : (m n : ℤ) → is_true (binary (Compare Eq Binary) (Int m) (Int n)) ≡ is_eq (int_cmp m n)
unfolding binary
equal_is m n = rw (value_cmp-Int m n) (told (is_eq (int_cmp m n)))

no_permutation : {X : Type 0} (ys : List X) → IsPermutation [] ys → ys ≡ []
no_permutation ys h = nil_from_length ys (length_permutation [] ys h)

module _ {X : Type 0} (key : X → ℕ) (row : X → Row) (first : (x : X) → rowid (row x) ≡ Int (pos (key x))) where
  test_is : (params : Row) (at n : ℕ) (x : X) → column params at ≡ Int (pos n)
      → holds (params ∷ row x ∷ []) (op2 (Compare Eq Binary) (col 1 0) (col 0 at)) ≡ is_eq (three (key x) n)
  test_is params at n x given = rw (first x, given) (equal_is (pos (key x)) (pos n))

  -- the rows that the test leaves
  matched : (db : Trees) (params : Row) (at n : ℕ) (ys : List X) → column params at ≡ Int (pos n)
      → flat_map (λ r. if list_all (holds (params ∷ r ∷ [])) (op2 (Compare Eq Binary) (col 1 0) (col 0 at) ∷ []) then (params ∷ r ∷ [])
      ∷ [] else []) (map row ys) ≡ map (λ x. params ∷ row x ∷ []) (with_key key n ys)
  matched db params at n [] given = refl
  matched db params at n (y ∷ ys) given = rw (test_is params at n y given) (go (is_eq (three (key y) n)) (matched db params at n ys given))
    where
      go : (b : Bool) {rest : List Env} → rest ≡ map (λ x. params ∷ row x ∷ []) (with_key key n ys)
          → (if b && true then (params ∷ row y ∷ []) ∷ [] else []) ++ rest ≡ map (λ x. params ∷ row x ∷ []) (cond b (y ∷ with_key key n ys) (with_key key n ys))
      go true more = ap (λ es. (params ∷ row y ∷ []) ∷ es) more
      go false more = more

  -- the answer where one row has the key
  pub answered : (db : Trees) (params : Row) (tree at n : ℕ) (project : List Term) (xs : List X) (rows : List Row) → column params at ≡ Int (pos n)
      → db tree ≡ map row xs
      → (x : X) → with_key key n xs ≡ x ∷ [] → IsAnswer (by_key tree at project) db params rows → rows ≡ eval_all project (params ∷ row x ∷ []) ∷ []
  answered db params tree at n project xs rows given has x one a =
      let staged : a.staged ≡ (params ∷ row x ∷ []) ∷ [] = a.grouped ∙ rw has (matched db params at n xs given) ∙ ap (map (λ x. params ∷ row x ∷ [])) one in
      let q = by_key tree at project in
      let o : Output = ([], eval_all project (params ∷ row x ∷ [])) in
      let kept : a.kept ≡ o ∷ [] = a.distinct ∙ ap (map (output q)) staged in
      let ordered = one_permutation o a.ordered (subst (λ k. IsPermutation k a.ordered) kept a.same) in
      a.shown ∙ ap (λ xs. page q params (map (λ (p : Output). p.1) xs)) ordered

  -- the answer where none has
  pub answered_none : (db : Trees) (params : Row) (tree at n : ℕ) (project : List Term) (xs : List X) (rows : List Row)
      → column params at ≡ Int (pos n) → db tree ≡ map row xs
      → with_key key n xs ≡ [] → IsAnswer (by_key tree at project) db params rows → rows ≡ []
  answered_none db params tree at n project xs rows given has none a =
      let staged : a.staged ≡ [] = a.grouped ∙ rw has (matched db params at n xs given) ∙ ap (map (λ x. params ∷ row x ∷ [])) none in
      let q = by_key tree at project in
      let kept : a.kept ≡ [] = a.distinct ∙ ap (map (output q)) staged in
      let ordered = no_permutation a.ordered (subst (λ k. IsPermutation k a.ordered) kept a.same) in
      a.shown ∙ ap (λ xs. page q params (map (λ (p : Output). p.1) xs)) ordered
