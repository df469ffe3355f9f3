-- The upsert into `ord_authz`, and the insertion.
use Rattle.std.specs.Prelude.{◌+ℤ◌}
use Rattle.std.proofs.Common.{◌≡◌, inl, inr, ℕ, ◌+◌, ℤ, pos, ◌&&◌, ◌||◌, List, [], ◌∷◌, map, fold, Bool, true, false, Some, Ok, refl, ap, arith, rules}
use Rattle.sqlite.specs.{declared.types.Value.TheVariants.Int, declared.types.Value.TheVariants.Null, Listing.understood, Rows.Task, Rows.rowids_for}
use Rattle.sqlite.specs.{State.State, State.Executes}
use Rattle.sqlite_value.specs.Order.{Row}
use Rattle.sqlite_value.proofs.KeyLemmas.{first_key-plain}
use Rattle.sqlite_trees.specs.Tree.{rowid}
use Rattle.sqlite_schema.specs.declared.command.Command.TheVariants.{Insert, InsertOr}
use Rattle.sqlite_schema.specs.declared.command.{Conflict.TheVariants.Abort, Source.TheVariants.Values}
use Rattle.sqlite_sql.specs.Term.{Term, lit, col}
use Rattle.sqlite_rules.specs.{Cast.cast_row, Edit.id_in, Edit.next_rowid, Edit.with_rowid, Keys.conflicts}
use Rattle.sqlite_tied.specs.Compute.{everything}
use Rattle.store_columns.specs.{Columns.listed_columns, declared.columns.Owned.Owned}
use Rattle.desk_model.specs.{Change.put, declared.rows.Listed.Listed}
use Rattle.sql_schema.specs.Schema.{desk_schema, ord_authz_table}
use Rattle.sql_tables.specs.{Effects.Appends, Effects.Places, Effects.is_same_place, Hidden.IsPlaced, Hidden.hidden, Hidden.next, Hidden.number}
use Rattle.sql_tables.specs.{Images.listed_cells, Images.listed_params, Layouts.IsRising, Layouts.listed_layout}
use Rattle.sql_schema.specs.declared.listed.TheConstants as ord_authz
use Rattle.sql_tables.proofs.Inserts.{Carries, Means, becomes, carries, has_done, no_works, ran, task_of}
use Rattle.sql_tables.proofs.{Casts.cast_int, Casts.new_kept, Casts.row_kept, Found.equal_is, InsertStatement.inserts_row, Keyed.eq_is, Keyed.put_ascends}
use Rattle.sql_tables.proofs.Upsert.{clause_on, puts_settled}
use Rattle.sql_schema.proofs.Making.{went}

-- ---- rows under hidden numbers

-- a row without a number gets the next one
chosen_of : (task : Task) (top : ℤ) (rows : List Row) (c : Row) → task.table.is_counted ≡ false
    → with_rowid (rowids_for task.table top) rows (Null ∷ c) ≡ Int (next_rowid rows) ∷ c
chosen_of task top rows c none = rw none refl

-- the engine's next number
next_from : {X : Type 0} (cells : X → Row) (n : ℕ) (ts : List (ℕ × X))
    → fold (λ _ r. id_in (rowid r) +ℤ pos 1) (pos n) (map (hidden cells) ts) ≡ pos (fold (λ _ t. t.0 + 1) n ts)
next_from cells n [] = refl
next_from cells n (t ∷ ts) = next_from cells (t.0 + 1) ts

-- so a row without a number gets the next one of the list
numbered_next : {X : Type 0} (cells : X → Row) (task : Task) (top : ℤ) (rows : List Row) (ts : List (ℕ × X)) (x : X) → task.table.is_counted ≡ false
    → rows ≡ map (hidden cells) ts → cast_row task.table (Null ∷ cells x) ≡ Null ∷ cells x
    → with_rowid (rowids_for task.table top) rows (cast_row task.table (Null ∷ cells x)) ≡ hidden cells (next ts, x)
numbered_next cells task top rows ts x uncounted has cast_new = search (rules, chosen_of, next_from)

-- ---- the statements

-- the row that is inserted, in terms of the parameters
abbrev terms : List Term
terms = lit Null ∷ col 0 0 ∷ col 0 1 ∷ col 0 2 ∷ []

-- the hidden number of the row that is there, then the row with the new authorization
abbrev project : List Term
project = col 1 0 ∷ col 1 0 ∷ col 1 1 ∷ col 1 2 ∷ col 0 7 ∷ []

-- what the upsert means
upsert_means : Means ord_authz.WRITING.1.now (InsertOr 5 Abort (Values terms 4) (clause_on (1 ∷ 2 ∷ []) 6 3 project ∷ []))
unfolding understood everything
upsert_means = record { is = refl; plain = (refl, refl) }

-- what the insertion means
insert_means : Means ord_authz.WRITING.0.now (Insert 5 (Values terms 4))
unfolding understood everything
insert_means = record { is = refl; plain = (refl, refl) }

-- a row keeps its values
casts : (t : ℕ × Owned Listed) → cast_row ord_authz_table (hidden listed_cells t) ≡ hidden listed_cells t
casts t = row_kept ord_authz_table _ _ (cast_int _, (cast_int _, (cast_int _, tt)))

-- two places agree where both columns do
both : (a b : Bool) → (a && (b && true)) || false ≡ (a && b)
both a b = search rules

-- two rows clash where they are one place of one order
clash : (n : ℕ) (x : Owned Listed) (t : ℕ × Owned Listed)
    → conflicts (Some (1 ∷ 2 ∷ [])) desk_schema.indexes ord_authz_table (hidden listed_cells (n, x)) (hidden listed_cells t) ≡ is_same_place x t.1
clash n x t = search (rules, first_key-plain, equal_is, both, eq_is)

-- an order's place is the one that is there
sets : (k : ℕ) (x y : Owned Listed) → is_same_place x y ≡ true
    → Int (pos k) ∷ Int (pos k) ∷ Int (pos y.owner) ∷ Int (pos y.row.place) ∷ Int (pos x.row.authorization) ∷ [] ≡ Int (pos k) ∷ hidden listed_cells (k, x)
sets k x y same = grind arith

-- rows stay in the order of their hidden numbers
placed_rises : (x : Owned Listed) (before after : List (ℕ × Owned Listed)) → IsRising number before → IsPlaced is_same_place x before after
    → IsRising number after
placed_rises x before after h k = search (rules, put_ascends)

-- a row without its number keeps the others
new_row : (x : Owned Listed) → cast_row ord_authz_table (Null ∷ listed_cells x) ≡ Null ∷ listed_cells x
new_row x = new_kept ord_authz_table _ (cast_int _, (cast_int _, (cast_int _, tt)))

-- the statement puts the row
places_listed : (old new : State) (x : Owned Listed) (count : ℕ) → Executes ord_authz.WRITING.1.now (listed_params (listed_columns x)) old new (Ok count)
    → Places x old.now new.now
places_listed old new x count h before has =
    let params = listed_params (listed_columns x) in
    let text = ord_authz.WRITING.1.now in
    let did = has_done text params _ old new count has.schema (ran text params _ old new count upsert_means has.schema h) in
    let done = went did.did in
    let task = task_of old ord_authz_table params in
    let it = puts_settled number (hidden listed_cells) (λ _. refl) task (no_works 6) casts (λ _. refl) 3 project (1 ∷ 2 ∷ []) (next before, x)
    (λ t. is_same_place x t.1) (λ t. (t.0, x))
    (record { clash = clash (next before) x; kept = λ t same. refl; given = λ k. refl; sets = λ t same. sets t.0 x t.1 same })
    old.now.trees before terms 4 (Null ∷ listed_cells x) done.0 refl has.rows_are has.rising refl
    (λ top. numbered_next listed_cells task top (old.now.trees 6) before x refl has.rows_are (new_row x)) done.1 in
    let after = put number it.0 before in
    let placed : IsPlaced is_same_place x before after = elim (it.1) [
      | inl tied ↦ inl (tied.0, tied.1, tied.2, ap (λ t. put number t before) tied.3)
      | inr fresh ↦ inr (fresh.0, ap (λ t. put number t before) fresh.1)
    ] in
    (after, placed, becomes listed_layout old new params after done.0 did.tally did.sound done.2 (placed_rises x before after has.rising placed) it.2)

-- and the other one appends it
appends_listed : (old new : State) (x : Owned Listed) (count : ℕ) → Executes ord_authz.WRITING.0.now (listed_params (listed_columns x)) old new (Ok count)
    → Appends x old.now new.now
appends_listed old new x count h before has =
    let params = listed_params (listed_columns x) in
    let text = ord_authz.WRITING.0.now in
    let did = has_done text params _ old new count has.schema (ran text params _ old new count insert_means has.schema h) in
    let done = went did.did in
    let task = task_of old ord_authz_table params in
    let it = inserts_row number (hidden listed_cells) (λ _. refl) task (no_works 6) old.now.trees before (next before, x) terms 4
    (Null ∷ listed_cells x) done.0 refl has.rows_are refl
    (λ top. numbered_next listed_cells task top (old.now.trees 6) before x refl has.rows_are (new_row x)) done.1 in
    becomes listed_layout old new params _ done.0 did.tally did.sound done.2 (put_ascends number 0 (next before, x) before (omega arith) has.rising) it.1

-- inside a transaction, too
pub advances_listed : Carries ord_authz.WRITING.1.now (λ x. listed_params (listed_columns x)) Places
advances_listed = carries ord_authz.WRITING.1.now (λ x. listed_params (listed_columns x)) Places places_listed

-- and the insertion
pub advances_appended : Carries ord_authz.WRITING.0.now (λ x. listed_params (listed_columns x)) Appends
advances_appended = carries ord_authz.WRITING.0.now (λ x. listed_params (listed_columns x)) Appends appends_listed
