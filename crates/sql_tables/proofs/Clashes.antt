-- Which row an upsert by the key meets.
use Rattle.std.proofs.Common.{◌≡◌, pos, ◌&&◌, ◌||◌, [], ◌∷◌, Bool, true, false, Some, rules}
use Rattle.std.specs.Ordering.{is_eq}
use Rattle.sqlite.specs.declared.types.Value.TheVariants.{Int}
use Rattle.sqlite_value.proofs.KeyLemmas.{first_key-plain}
use Rattle.sqlite_trees.specs.Tree.{rowid}
use Rattle.sqlite_rules.specs.Keys.{conflicts}
use Rattle.sql_tables.specs.Layouts.{Layout}
use Rattle.sql_tables.proofs.{Found.equal_is, Keyed.three}

alone : (b : Bool) → ((b && true) || false) ≡ b
alone b = search rules

-- the one with its key; no index is asked
pub clash_by_key : {X : Type 0} (L : Layout X) → ((x : X) → rowid (L.image x) ≡ Int (pos (L.key x))) → (x y : X)
    → conflicts (Some (0 ∷ [])) [] L.table (L.image x) (L.image y) ≡ is_eq (three (L.key y) (L.key x))
clash_by_key L first x y = search (rules, first_key-plain, equal_is, alone, three)
