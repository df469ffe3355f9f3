-- What is picked from one row more, and the rows of format 1 that were shown.
use Rattle.std.proofs.Common.{◌≡◌, ◌++◌, List, [], ◌∷◌, Option, arith, rules}
use Rattle.std.specs.{List.filter_map, Prelude.option_to_list}
use Rattle.sqlite.specs.{Held.Held, Held.state, Store.Ghosts}
use Rattle.store_columns.specs.declared.columns.StoredRows.{StoredRows}
use Rattle.sql_read.specs.First.{AreFirstShown}
use Rattle.sql_read.proofs.ShownRows.{shown_still}

-- what a list of columns gives, by one more
pub blank_more : {X Y : Type 0} (f : X → Option Y) (xs : List X) (x : X) → filter_map f (xs ++ x ∷ []) ≡ filter_map f xs ++ option_to_list (f x)
blank_more {X} {Y} f [] x = grind arith
blank_more {X} {Y} f (z ∷ xs) x = grind (arith, (blank_more f xs x))

-- rows that were shown over a database were shown before calls that changed nothing
pub first_before : {S : Type 0} (g : Ghosts S) (old now : Held S) (stored : StoredRows) → (state g now).now ≡ (state g old).now → AreFirstShown g now stored
    → AreFirstShown g old stored
first_before g old now stored same it = search (rules, shown_still)
