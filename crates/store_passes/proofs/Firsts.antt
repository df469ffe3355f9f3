-- The first of the rows that were looked up.
use Rattle.std.proofs.Common.{◌≡◌, ℕ, List, [], ◌∷◌, Some, None, Bool, refl, filter, map, arith, rules}
use Rattle.std.specs.Prelude.{find, slice_get, ◌==◌}
use Rattle.desk_model.specs.{Derived.stored_statuses, Document.rows_of, declared.rows.AuthorizationRow.AuthorizationRow}

-- the first of the rows that pass a test is the one that is found
first_passes : {X : Type 0} (test : X → Bool) (xs : List X) → slice_get (filter test xs) 0 ≡ find test xs
first_passes test [] = refl
first_passes test (x ∷ xs) = grind (arith, (first_passes test xs))

-- with no row of a number, none is of it
pub none_listed : (rows found : List AuthorizationRow) (n : ℕ) → found ≡ filter (λ a. a.number == n) rows → slice_get found 0 ≡ None →
    (later : List ℕ) → rows_of rows (n ∷ later) ≡ rows_of rows later
none_listed rows found n are none later = search (rules, first_passes)

-- the first row of a number is its row
pub first_listed : (rows found : List AuthorizationRow) (n : ℕ) (row : AuthorizationRow) → found ≡ filter (λ a. a.number == n) rows
    → slice_get found 0 ≡ Some row →
    (later : List ℕ) → rows_of rows (n ∷ later) ≡ row ∷ rows_of rows later
first_listed rows found n row are first later = search (rules, first_passes)

-- the stored statuses of numbers are those of their rows
pub statuses_listed : (rows : List AuthorizationRow) (ns : List ℕ) → stored_statuses rows ns ≡ map (λ a. a.status) (rows_of rows ns)
statuses_listed rows [] = refl
statuses_listed rows (n ∷ ns) = grind (arith, (statuses_listed rows ns))
