-- What a statement makes of the tables.
use Rattle.std.specs.Prelude.{◌≡◌, ◌≢◌, ◌&&◌, ◌==◌, ℕ, Bool, List, None, find}
use Rattle.sqlite.specs.{Effect.Database, Effect.IsDatabase, Order.Row}
use Rattle.sqlite_rules.specs.{Edit.IsNoIndex, Lists.Has}
use Rattle.store_columns.specs.declared.columns.Owned.{Owned}
use Rattle.desk_model.specs.{Change.put, Change.remove, declared.rows.Listed.Listed}
use Rattle.sql_schema.specs.Schema.{desk_schema}
use Rattle.sql_tables.specs.{Hidden.IsPlaced, Hidden.next, Hidden.number, Layouts.HasRows, Layouts.Layout, Layouts.listed_layout}

-- every other table is as it was
abbrev pub KeepsOthers : ℕ → Database → Database → Type 0
KeepsOthers tree old new = (t : ℕ) → t ≢ tree → IsNoIndex desk_schema t → new.trees t ≡ old.trees t

-- the table has these rows then, and every other table is as it was
pub record BecomesRows {X : Type 0} (L : Layout X) (rows : List X) (old new : Database) : Type 0 where
  pub sound : IsDatabase new
  pub has : HasRows L new rows
  pub others : KeepsOthers L.table.tree old new

-- whatever rows the table has, they become those
abbrev pub Becomes : {X : Type 0} → Layout X → (List X → List X) → Database → Database → Type 0
Becomes {X} L change old new = (rows : List X) → HasRows L old rows → BecomesRows L (change rows) old new

-- the row stands in the place of the one with its key
abbrev pub Puts : {X : Type 0} → Layout X → X → Database → Database → Type 0
Puts L row = Becomes L (put L.key row)

-- the row stands in the place of the one with its key, where there is one of which it keeps these columns
abbrev pub Renews : {X : Type 0} → Layout X → (X → Row) → X → Database → Database → Type 0
Renews {X} L kept row old new =
    (rows : List X) → HasRows L old rows → (there : X) → Has rows there → L.key there ≡ L.key row → kept there ≡ kept row
    → BecomesRows L (put L.key row rows) old new

-- the row is there then, and none had its key
abbrev pub Adds : {X : Type 0} → Layout X → X → Database → Database → Type 0
Adds {X} L row old new =
    (rows : List X) → HasRows L old rows → (find (λ r. L.key r == L.key row) rows ≡ None) × BecomesRows L (put L.key row rows) old new

-- the row of this key is gone
abbrev pub Removes : {X : Type 0} → Layout X → ℕ → Database → Database → Type 0
Removes L key = Becomes L (remove L.key key)

-- ---- what orders list

-- one place of one order
abbrev pub is_same_place : Owned Listed → Owned Listed → Bool
is_same_place a b = (a.owner == b.owner) && (a.row.place == b.row.place)

-- the row stands in the place of the one of its order and place, under the same hidden number, or under the next one
abbrev pub Places : Owned Listed → Database → Database → Type 0
Places row old new =
    (before : List (ℕ × Owned Listed)) → HasRows listed_layout old before →
    (after : List (ℕ × Owned Listed)) × IsPlaced is_same_place row before after × BecomesRows listed_layout after old new

-- the row is there then, under the next hidden number
abbrev pub Appends : Owned Listed → Database → Database → Type 0
Appends row old new =
    (before : List (ℕ × Owned Listed)) → HasRows listed_layout old before
    → BecomesRows listed_layout (put number (next before, row) before) old new
