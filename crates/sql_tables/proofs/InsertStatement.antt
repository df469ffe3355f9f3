-- What a text that inserts a row does, beside the one that puts it, from what the texts mean.
use Rattle.std.specs.Prelude.{find, ◌==◌}
use Rattle.std.proofs.Common.{◌≡◌, ℕ, ℤ, pos, ◌+◌, ◌&&◌, List, [], ◌∷◌, map, length, ◌/◌, not, Bool, true, false, None, Ok, sym, ap, subst, ◌∙◌, arith, rules}
use Rattle.sqlite.specs.Rows.{Inserts, Task, Written, count_of, rowids_for, stamped}
use Rattle.sqlite.specs.{declared.types.Value.TheVariants.Int, Effect.value_rows, State.State, State.Executes}
use Rattle.sqlite_value.specs.Order.{Row}
use Rattle.sqlite_trees.specs.Tree.{Trees, put_row, rowid}
use Rattle.sqlite_sql.specs.Term.{Term}
use Rattle.sqlite_schema.specs.declared.command.{Command.TheVariants.Insert, Source.TheVariants.Values}
use Rattle.sqlite_rules.specs.{Cast.cast_row, Edit.are_fresh, Edit.edit_of, Edit.edited, Edit.is_taken, Edit.put_all, Edit.taken_by, Edit.with_rowid}
use Rattle.sqlite.proofs.Callers.{one_step}
use Rattle.sql_schema.proofs.Making.{same_value, went}
use Rattle.sql_tables.specs.{Effects.Adds, Layouts.Layout}
use Rattle.sql_tables.proofs.Inserts.{Carries, Means, NoWorks, becomes, carries, has_done, no_works, ran, task_of}
use Rattle.sql_tables.proofs.{Keyed.put_ascends, Keyed.put_row_as, Keyed.untaken, Upsert.IsPut, Upsert.uncounts, UpsertStatement.IsUpsert}
use Rattle.sql_tables.proofs.UpsertStatement.{comes, inserted_terms}

-- the text inserts the row that the other text puts
abbrev pub IsInsert : {X : Type 0} (L : Layout X) {params : X → Row} {upsert : List ℕ} → IsUpsert L params upsert → List ℕ → Type 0
IsInsert L is text = Means text (Insert is.place (Values (inserted_terms is.more) (is.more + 2)))

-- the row was added, and no other had its key
abbrev pub IsAdded : {X : Type 0} → (X → ℕ) → (X → Row) → Task → Trees → List X → X → Trees → Type 0
IsAdded key row task db xs x next = (find (λ r. key r == key x) xs ≡ None) × IsPut key row task db xs x next

-- what the engine tests of one row
not_taken : (taken : Bool) → (not taken && true) ≡ true → taken ≡ false
not_taken taken h = search rules

-- a row that was inserted, with the number that it has or gets, stands in its place: no row had its key
pub inserts_row : {X : Type 0} (key : X → ℕ) (row : X → Row) → ((x : X) → rowid (row x) ≡ Int (pos (key x))) → (task : Task) → NoWorks task
    → (db : Trees) (xs : List X) (x : X) (terms : List Term) (width : ℕ) (source : Row) (done : Written) → task.table.is_counted ≡ false
    → db task.table.tree ≡ map row xs → value_rows (stamped task.table task.params) width (length terms / width) terms ≡ source ∷ []
    → ((top : ℤ) → with_rowid (rowids_for task.table top) (db task.table.tree) (cast_row task.table source) ≡ row x)
    → Inserts task (Values terms width) db (Ok done) → IsAdded key row task db xs x done.trees
inserts_row key row first task calm db xs x terms width source done uncounted has from is_new h =
    let rows = went h in
    let counter = went rows.2 in
    let mid = went counter.2 in
    let counts = went mid.2 in
    let top = rowids_for task.table (count_of counter.0) in
    let edit = edit_of db task.table [] top 0 rows.0 in
    let a = one_step task.schema task.keys db mid.0 edit (calm (taken_by db edit) edit.news) mid.1 in
    let news : edit.news ≡ row x ∷ [] =
    ap (λ rs. (edit_of db task.table [] top 0 rs).news) (rows.1.1 ∙ from) ∙ ap (λ r. r ∷ []) (is_new (count_of counter.0)) in
    let now : edited db edit ≡ put_row (row x) (db task.table.tree) = ap (put_all (db task.table.tree)) news in
    let fresh : are_fresh (map row xs) (row x ∷ []) ≡ true =
    ap (λ rs. are_fresh rs (row x ∷ [])) (sym has) ∙ ap (are_fresh (db task.table.tree)) (sym news) ∙ a.fresh in
    let last : done.trees ≡ counts.0 = ap (λ (it : Written). it.trees) (same_value counts.2) in
    let after : counts.0 ≡ mid.0 = uncounts task mid.0 counter.0 _ counts.0 uncounted counts.1 in (
      untaken key row first x xs (not_taken (is_taken (map row xs) (row x)) fresh),
      subst (IsPut key row task db xs x) (sym (last ∙ after)) (
        a.rows ∙ now ∙ rw (has) (put_row_as key row first x xs),
        a.others,
      ),
    )

-- so the text adds the row
inserts_by : {X : Type 0} (L : Layout X) (params : X → Row) {upsert : List ℕ} (is : IsUpsert L params upsert) (text : List ℕ) → IsInsert L is text
    → (old new : State) (x : X) (count : ℕ) → Executes text (params x) old new (Ok count) → Adds L x old.now new.now
inserts_by L params is text it old new x count h xs has =
    let did = has_done text (params x) _ old new count has.schema (ran text (params x) _ old new count it has.schema h) in
    let done = went (rw (is.table.found) at did.did) in
    let put = inserts_row L.key L.image is.table.first (task_of old L.table (params x)) (no_works L.table.tree) old.now.trees xs x (inserted_terms is.more)
    (is.more + 2) (L.image x) done.0 is.table.uncounted has.rows_are (is.source x)
    (λ top. comes L params _ is x (rowids_for L.table top) (old.now.trees L.table.tree)) done.1 in
    (put.0, becomes L old new (params x) _ done.0 did.tally did.sound done.2 (put_ascends L.key 0 x xs (omega arith) has.rising) put.1)

-- it does so inside a transaction, too
pub advances_inserted : {X : Type 0} (L : Layout X) (params : X → Row) {upsert : List ℕ} (is : IsUpsert L params upsert) (text : List ℕ)
    → IsInsert L is text → Carries text params (Adds L)
advances_inserted L params is text it = carries text params (Adds L) (inserts_by L params is text it)
