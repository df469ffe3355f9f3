-- What is known of a table whose rows were checked one after the other.
use Rattle.std.specs.Prelude.{◌≡◌, ◌++◌, ℕ, List, [], ◌∷◌, map}
use Rattle.sqlite.specs.{Effect.Database, Given.HasGiven, Order.Row, Store.Ghosts, State.IsUnchanged, State.Shown, Held.Held, Held.state}
use Rattle.desk_model.specs.Kept.{EachOf}
use Rattle.sql_read.specs.Shown.{IsShown}

module _ {S C R : Type 0} (g : Ghosts S) (text : List ℕ) (spelled : Row → C) (write : R → C) (IsStored : R → Type 0) where
  -- over this database the query showed the columns of rows in their limits, of which this is so
  pub record ShowsTable (db : Database) (P : List R → Type 0) : Type 0 where
    pub rows : List R
    pub shown : (conn : Held S) → (state g conn).now ≡ db → IsShown g text spelled conn (map write rows)
    pub stored : EachOf IsStored rows
    pub is : P rows

  -- the query has given the columns of rows in their limits, of which this is so, and changed nothing
  pub record HasGivenRows (old now : Held S) (P : List R → Type 0) : Type 0 where
    pub given : List Row
    pub rows : List R
    pub gives : HasGiven g text [] now given
    pub same : IsUnchanged (state g old) (state g now)
    pub columns : map spelled given ≡ map write rows
    pub stored : EachOf IsStored rows
    pub is : P rows

-- these rows of an answer spell the first of a table's rows, and their values are of the kinds of its columns
abbrev pub AreFirst : {C R : Type 0} → (spelled : Row → C) (write : R → C) (Fits : Row → Type 0) → List Row → List R → Type 0
AreFirst spelled write Fits [] all = Unit {0}
AreFirst spelled write Fits (row ∷ given) [] = ⊥
AreFirst spelled write Fits (row ∷ given) (one ∷ all) = (spelled row ≡ write one) × Fits row × AreFirst spelled write Fits given all

module _ {S C R : Type 0} (g : Ghosts S) (text : List ℕ) (spelled : Row → C) (write : R → C) (Fits : Row → Type 0) where
  -- over this database the query shows the columns of these rows and no others: whatever rows it has given are the first of them, and
  -- whatever answer it showed is that of them all
  pub record ShowsOnly (db : Database) (all : List R) : Type 0 where
    pub first : (conn : Held S) (given : List Row) → (state g conn).now ≡ db → HasGiven g text [] conn given
        → AreFirst spelled write Fits given all
    pub whole : (old new : Held S) (given : List Row) → (state g old).now ≡ db → Shown text [] (state g old) (state g new) given
        → map spelled given ≡ map write all

-- behind rows that came to it, this one belongs to no whole table
abbrev pub Stops : {K R : Type 0} → (Passed : K → K → List R → Type 0) → (AreAll : K → List R → Type 0) → K → R → Type 0
Stops {K} {R} Passed AreAll check row = (first : K) (rows rest : List R) → Passed first check rows → AreAll first (rows ++ row ∷ rest) → ⊥

-- a check that stood so goes on by these rows, from wherever it began
abbrev pub GoesOn : {K R : Type 0} → (Passed : K → K → List R → Type 0) → K → K → List R → Type 0
GoesOn {K} {R} Passed before after more = (first : K) (rows : List R) → Passed first before rows → Passed first after (rows ++ more)
