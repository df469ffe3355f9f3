-- DELETE of the row that has a key, and the deletion of a nonce.
use Rattle.std.proofs.Common.{◌≡◌, ◌≢◌, inl, inr, ℕ, pos, List, [], ◌∷◌, map, Ok, refl, sym, ap, ◌∙◌}
use Rattle.sqlite.specs.Rows.{Task, Written, Deletes}
use Rattle.sqlite.specs.{declared.types.Value.TheVariants.Int, declared.types.Value.TheVariants.Null, Listing.understood, State.State, State.Executes}
use Rattle.sqlite_value.specs.Order.{Row, column}
use Rattle.sqlite_trees.specs.Tree.{Trees, rowid}
use Rattle.sqlite_sql.specs.{Term.Term, Term.col, Program.overlay}
use Rattle.sqlite_schema.specs.declared.command.Command.TheVariants.{Delete}
use Rattle.sqlite_rules.specs.{declared.error.Rowids.TheVariants.Given, Edit.edit_of, Edit.edited, Edit.IsNoIndex, Calls.ids_of}
use Rattle.sqlite_tied.specs.Compute.{everything}
use Rattle.desk_model.specs.Change.{remove}
use Rattle.model_laws.proofs.RowLists.{ascends_filter}
use Rattle.sql_schema.specs.Schema.{nonce_table}
use Rattle.sql_schema.specs.declared.nonces.TheConstants as nonce
use Rattle.sql_tables.specs.{Effects.Removes, Layouts.IsRising, Layouts.nonce_layout}
use Rattle.sql_tables.proofs.Inserts.{Carries, Means, NoWorks, becomes, carries, edits, has_done, no_works, ran, task_of}
use Rattle.sql_tables.proofs.{Keyed.none_out, Keyed.one_or_none, Keyed.without_as, Found.answered, Found.answered_none, Found.by_key}
use Rattle.sql_schema.proofs.Making.{went}

-- the key of the row that goes
abbrev keys : List Term
keys = col 1 0 ∷ []

-- the row with the key is gone, and every other tree is as it was
removes : {X : Type 0} (key : X → ℕ) (row : X → Row) → ((x : X) → rowid (row x) ≡ Int (pos (key x)))
    → (task : Task) → NoWorks task → ((db : Trees) → overlay db [] task.table.tree ≡ db task.table.tree)
    → (at n : ℕ) (db : Trees) (xs : List X) (w : Written)
    → db task.table.tree ≡ map row xs → IsRising key xs → column task.params at ≡ Int (pos n)
    → Deletes task (record { lets = []; body = by_key task.table.tree at keys }) db (Ok w)
    → (w.trees task.table.tree ≡ map row (remove key n xs)) × ((t : ℕ) → t ≢ task.table.tree → IsNoIndex task.schema t → w.trees t ≡ db t)
removes key row first task calm low at n db xs w has up given h =
    let on = went h in
    let b = edits task calm db (ids_of on.0) Given 0 [] _ w on.2 (λ next. refl) in
    let tree = low db ∙ has in
    let found = on.1.answer Null in (
      b.rows ∙ elim (one_or_none key n 0 xs up) [
        | inl none ↦
            let rows : on.0 ≡ [] = answered_none key row first (overlay db []) task.params task.table.tree at n keys xs on.0 given tree none found in
            ap (λ rs. edited db (edit_of db task.table (ids_of rs) Given 0 [])) rows ∙ has ∙ ap (map row) (sym (none_out key n xs none))
        | inr one ↦
            let rows : on.0 ≡ (Int (pos n) ∷ []) ∷ [] =
            answered key row first (overlay db []) task.params task.table.tree at n keys xs on.0 given tree one.0 one.2 found
            ∙ ap (λ v. (v ∷ []) ∷ []) (first one.0 ∙ ap (λ k. Int (pos k)) one.1) in
            ap (λ rs. edited db (edit_of db task.table (ids_of rs) Given 0 [])) rows ∙ rw has (without_as key row first n xs)
      ],
      b.others,
    )

-- ---- a nonce

delete_means : Means nonce.DELETE.now (Delete 1 (record { lets = []; body = by_key 1 0 keys }))
unfolding understood everything
delete_means = record { is = refl; plain = (refl, refl) }

-- the statement removes the nonce
removes_nonce : (old new : State) (n : ℕ) (count : ℕ) → Executes nonce.DELETE.now (Int (pos n) ∷ []) old new (Ok count)
    → Removes nonce_layout n old.now new.now
removes_nonce old new n count h xs has =
    let did = has_done nonce.DELETE.now (Int (pos n) ∷ []) _ old new count has.schema
    (ran nonce.DELETE.now (Int (pos n) ∷ []) _ old new count delete_means has.schema h) in
    let done = went did.did in
    becomes nonce_layout old new (Int (pos n) ∷ []) (remove nonce_layout.key n xs) done.0 did.tally did.sound done.2
    (ascends_filter nonce_layout.key _ 0 xs has.rising)
    (removes nonce_layout.key nonce_layout.image (λ _. refl) (task_of old nonce_table (Int (pos n) ∷ [])) (no_works 1) (λ _. refl) 0 n old.now.trees xs
    done.0 has.rows_are has.rising refl done.1)

-- inside a transaction, too
pub advances_removal : Carries nonce.DELETE.now (λ n. Int (pos n) ∷ []) (Removes nonce_layout)
advances_removal = carries nonce.DELETE.now (λ n. Int (pos n) ∷ []) (Removes nonce_layout) removes_nonce
