-- Which trees a statement on one table leaves as they were.
use Rattle.std.specs.{List.list_all, Prelude.◌==◌}
use Rattle.std.proofs.Common.{◌≡◌, ℕ, List, [], ◌∷◌, ◌&&◌, ◌++◌, not, Bool, true, ◌∙◌, arith}
use Rattle.std.proofs.lemmas.Bool.{and_parts}
use Rattle.sqlite.specs.Effect.{Database}
use Rattle.sqlite_schema.specs.declared.schema.Index.{Index}
use Rattle.sql_schema.specs.Schema.{desk_schema}
use Rattle.sql_tables.specs.Effects.{KeepsOthers}

-- the tree is that of none of these indexes
abbrev of_none : ℕ → List Index → Bool
of_none t = list_all (λ (i : Index). not (i.tree == t))

-- the tree is none of these, and of no index
abbrev pub beside : List ℕ → ℕ → Bool
beside [] t = of_none t desk_schema.indexes
beside (m ∷ ms) t = not (t == m) && beside ms t

-- each such tree is as it was
abbrev pub KeepsBut : List ℕ → Database → Database → Type 0
KeepsBut moved old new = (t : ℕ) → beside moved t ≡ true → new.trees t ≡ old.trees t

-- behind a statement on one table
pub kept_at : (tree : ℕ) (old new : Database) → KeepsOthers tree old new → KeepsBut (tree ∷ []) old new
kept_at tree old new others t is = grind arith

-- none of more trees is none of some
beside_last : (xs ys : List ℕ) (t : ℕ) → beside (xs ++ ys) t ≡ true → beside ys t ≡ true
beside_last [] ys t is = is
beside_last (x ∷ xs) ys t is = beside_last xs ys t (and_parts (not (t == x)) (beside (xs ++ ys) t) is).1

-- a tree beside all of some is beside the first of them
beside_first : (xs ys : List ℕ) (t : ℕ) → beside (xs ++ ys) t ≡ true → beside xs t ≡ true
beside_first [] [] t is = is
beside_first [] (y ∷ ys) t is = beside_first [] ys t (and_parts (not (t == y)) (beside ys t) is).1
beside_first (x ∷ xs) ys t is =
    let parts = and_parts (not (t == x)) (beside (xs ++ ys) t) is in rw (parts.0) (beside_first xs ys t parts.1)

-- behind one call and another
pub keeps_both : (xs ys : List ℕ) (a b c : Database) → KeepsBut xs a b → KeepsBut ys b c → KeepsBut (xs ++ ys) a c
keeps_both xs ys a b c first last t is = last t (beside_last xs ys t is) ∙ first t (beside_first xs ys t is)
