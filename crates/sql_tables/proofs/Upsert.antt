-- INSERT .. ON CONFLICT (columns) DO UPDATE of one row, over a table whose rows are typed and stand under numbers.
use Rattle.std.proofs.Common.{◌≡◌, ◌≢◌, ◌⊎◌, inl, inr, ℕ, ℤ, pos, ◌++◌, Bool, List, [], ◌∷◌, map, length, ◌/◌, true, false, Some, Option, Ok, refl, sym, ap}
use Rattle.std.proofs.Common.{subst, ◌∙◌, arith, rules}
use Rattle.std.proofs.lemmas.Bool.{false_from_ne_true}
use Rattle.sqlite.specs.Rows.{Task, Written, Puts, Clears, Meets, Updates, Upserts, InsertsOr, stamped, rowids_for, Counts, shown}
use Rattle.sqlite.specs.{declared.types.Value.TheVariants.Int, declared.types.Value.TheVariants.Null, Effect.value_rows}
use Rattle.sqlite_value.specs.Order.{Row, column}
use Rattle.sqlite_trees.specs.Tree.{Trees, rowid}
use Rattle.sqlite_sql.specs.{Term.Term, Term.eval_all, Program.overlay}
use Rattle.sqlite_schema.specs.declared.command.{Upsert.Upsert, Conflict.TheVariants.Abort, Source.TheVariants.Values}
use Rattle.sqlite_rules.specs.{declared.error.Rowids.Rowids, declared.error.Rowids.TheVariants.Given, Edit.edit_of, Edit.edited, Edit.with_rowid}
use Rattle.sqlite_rules.specs.{Edit.IsNoIndex, Keys.AreConflicts, Keys.conflicts, Cast.cast_row, Calls.ids_of, Lists.Has}
use Rattle.desk_model.specs.Change.{put, remove}
use Rattle.sql_tables.specs.Layouts.{IsRising}
use Rattle.sql_tables.proofs.Keyed.{alone_with, put_row_as, without_as, put_anew}
use Rattle.sql_tables.proofs.{Found.by_key, Found.answered, Inserts.NoWorks, Inserts.edits, Inserts.puts}
use Rattle.sql_schema.proofs.Making.{same_value, went}

-- what is in a list is in the mapped one
pub has_map : {A B : Type 0} (f : A → B) (xs : List A) (x : A) → Has xs x → Has (map f xs) (f x)
has_map f [] x h = h
has_map f (y ∷ ys) x (inl here) = inl (ap f here)
has_map f (y ∷ ys) x (inr there) = inr (has_map f ys x there)

-- what a mapped list has is the image of an item
pub image_of : {X Y : Type 0} (f : X → Y) (xs : List X) (y : Y) → Has (map f xs) y → (x : X) × Has xs x × (y ≡ f x)
image_of f [] y h = absurd h
image_of f (x ∷ xs) y (inl here) = (x, inl refl, here)
image_of f (x ∷ xs) y (inr there) = let it = image_of f xs y there in (it.0, inr it.1, it.2)

-- ON CONFLICT (columns) DO UPDATE
abbrev pub clause_on : List ℕ → ℕ → ℕ → List Term → Upsert
clause_on places tree at project = record { target = Some places; update = Some (record { lets = []; body = by_key tree at project }) }

-- the table has the row in its place, and every other tree is as it was
abbrev pub IsPut : {X : Type 0} → (X → ℕ) → (X → Row) → Task → Trees → List X → X → Trees → Type 0
IsPut key row task db xs x next = (next task.table.tree ≡ map row (put key x xs)) × ((t : ℕ) → t ≢ task.table.tree → IsNoIndex task.schema t → next t ≡ db t)

-- a row with a number keeps it
pub keeps_id : (rowids : Rowids) (rows : List Row) (r : Row) (n : ℤ) → rowid r ≡ Int n → with_rowid rowids rows r ≡ r
keeps_id rowids rows r n h = search rules

-- without AUTOINCREMENT nothing is counted
pub uncounts : (task : Task) (db : Trees) (counter : Option Row) (top : ℤ) (next : Trees) → task.table.is_counted ≡ false
    → Counts task db counter top (Ok next) → next ≡ db
uncounts task db counter top next none h = same_value (rw none at h)

-- where nothing is replaced a row is put, whatever was found
cleared : (task : Task) (new : Row) (db : Trees) (found : List Row) (w : Written) → Clears task Abort new db found (Ok w) → Puts task new db (Ok w)
cleared task new db found w h = search rules

-- where one row comes, what is written is what is written of it
one_tried : (task : Task) (clauses : List Upsert) (db : Trees) (terms : List Term) (width : ℕ) (given new : Row) (done : Written)
    → task.table.is_counted ≡ false → value_rows (stamped task.table task.params) width (length terms / width) terms ≡ given ∷ []
    → ((top : ℤ) → with_rowid (rowids_for task.table top) (db task.table.tree) (cast_row task.table given) ≡ new)
    → InsertsOr task Abort clauses (Values terms width) db (Ok done)
    → (w : Written) × (done.trees ≡ w.trees) × Upserts task Abort new db clauses (Ok w)
one_tried task clauses db terms width given new done uncounted source is_new h = grind arith

module _ {X : Type 0} (key : X → ℕ) (row : X → Row) (first : (x : X) → rowid (row x) ≡ Int (pos (key x)))
    (task : Task) (calm : NoWorks task) (casts : (x : X) → cast_row task.table (row x) ≡ row x)
    (low : (db : Trees) → overlay db [] task.table.tree ≡ db task.table.tree)
    (at : ℕ) (project : List Term) where
  -- no row had the key
  inserted : (db : Trees) (xs : List X) (x : X) (w : Written) → db task.table.tree ≡ map row xs → Puts task (row x) db (Ok w)
      → IsPut key row task db xs x w.trees
  inserted db xs x w has h = let it = puts task calm db (row x) w h in (it.0 ∙ rw (casts x, has) (put_row_as key row first x xs), it.1)

  -- a row that is there is taken out, and the one that the update makes of it is put
  pub renewed : (params : Row) (db : Trees) (xs : List X) (x y : X) (w : Written) → db task.table.tree ≡ map row xs → IsRising key xs → Has xs y
      → key y ≡ key x → column params at ≡ Int (pos (key y)) → eval_all project (params ∷ row y ∷ []) ≡ Int (pos (key y)) ∷ row x
      → Updates task (record { lets = []; body = by_key task.table.tree at project }) params db (Ok w) → IsPut key row task db xs x w.trees
  renewed params db xs x y w has up there same given sets h =
      let on = went h in
      let rows : on.0 ≡ (Int (pos (key y)) ∷ row x) ∷ [] =
      answered key row first (overlay db []) params task.table.tree at (key y) project xs on.0 given (low db ∙ has) y (alone_with key 0 xs y up there)
      (on.1.answer Null) ∙ ap (λ r. r ∷ []) sets in
      let b = edits task calm db (ids_of on.0) Given 1 on.0 _ w on.2 (λ next. refl) in
      let edited_as : edited db (edit_of db task.table (ids_of on.0) Given 1 on.0) ≡ map row (put key x xs) =
      ap (λ rs. edited db (edit_of db task.table (ids_of rs) Given 1 rs)) rows
      ∙ rw (casts x, has, same, without_as key row first (key x) xs)
      (put_row_as key row first x (remove key (key x) xs) ∙ ap (map row) (put_anew key x 0 xs up)) in
      (b.rows ∙ edited_as, b.others)

  module _ (places : List ℕ) (new : X) (clashes : X → Bool) (moved : X → X) where
    -- what the update is given: the parameters, the number of the row that is there, and the row that is not inserted
    abbrev given_to : ℕ → Row
    given_to k = task.params ++ Int (pos k) ∷ shown task.table (row new)

    -- the new row clashes with these, and the update makes this of one
    pub record Settles : Type 0 where
      pub clash : (t : X) → conflicts (Some places) task.schema.indexes task.table (row new) (row t) ≡ clashes t
      pub kept : (t : X) → clashes t ≡ true → key t ≡ key (moved t)
      pub given : (k : ℕ) → column (given_to k) at ≡ Int (pos k)
      pub sets : (t : X) → clashes t ≡ true → eval_all project (given_to (key t) ∷ row t ∷ []) ≡ Int (pos (key t)) ∷ row (moved t)

    -- the row is what the update made of one that is there, or else the new one
    abbrev pub IsSettled : List X → X → Type 0
    IsSettled xs x = ((t : X) × Has xs t × (clashes t ≡ true) × (x ≡ moved t)) ⊎ (((t : X) → Has xs t → clashes t ≡ false) × (x ≡ new))

    -- it is put
    upserts : Settles → (db : Trees) (xs : List X) (w : Written) → db task.table.tree ≡ map row xs → IsRising key xs
        → Upserts task Abort (row new) db (clause_on places task.table.tree at project ∷ []) (Ok w)
        → (x : X) × IsSettled xs x × IsPut key row task db xs x w.trees
    upserts is db xs w has up h = go h.0 h.1 h.2
      where
        go : (found : List Row) → AreConflicts (Some places) task.schema.indexes task.table (db task.table.tree) (row new) found
            → Meets task (Upserts task Abort (row new) db []) (row new) db (clause_on places task.table.tree at project) found (Ok w)
            → (x : X) × IsSettled xs x × IsPut key row task db xs x w.trees
        go [] none h =
            let stands = λ (t : X) (in_it : Has xs t). subst (λ rows. Has rows (row t)) (sym has) (has_map row xs t in_it) in (
              new,
              inr (λ t in_it. false_from_ne_true (clashes t) (λ tied. none.complete (row t) (stands t in_it) (is.clash t ∙ tied)), refl),
              inserted db xs new w has (cleared task (row new) db h.0 w h.2),
            )
        go (there ∷ more) some h =
            let it = some.sound there (inl refl) in
            let from = image_of row xs it.0 (subst (λ rows. Has rows it.0) has it.1) in
            let t = from.0 in
            let tied : clashes t ≡ true =
            sym (is.clash t) ∙ ap (conflicts (Some places) task.schema.indexes task.table (row new)) (sym from.2) ∙ it.2 in
            let read : rowid there ≡ Int (pos (key t)) = ap rowid it.3 ∙ ap rowid from.2 ∙ first t in (
              moved t,
              inl (t, from.1, tied, refl),
              renewed (given_to (key t)) db xs (moved t) t w has up from.1 (is.kept t tied) (is.given (key t)) (is.sets t tied)
                  (subst (λ v. Updates task (record { lets = []; body = by_key task.table.tree at project })
                  (task.params ++ v ∷ shown task.table (row new)) db (Ok w)) read h),
            )

    -- and so by the whole statement
    pub puts_settled : Settles → (db : Trees) (xs : List X) (terms : List Term) (width : ℕ) (source : Row) (done : Written)
        → task.table.is_counted ≡ false → db task.table.tree ≡ map row xs → IsRising key xs
        → value_rows (stamped task.table task.params) width (length terms / width) terms ≡ source ∷ []
        → ((top : ℤ) → with_rowid (rowids_for task.table top) (db task.table.tree) (cast_row task.table source) ≡ row new)
        → InsertsOr task Abort (clause_on places task.table.tree at project ∷ []) (Values terms width) db (Ok done)
        → (x : X) × IsSettled xs x × IsPut key row task db xs x done.trees
    puts_settled is db xs terms width source done uncounted has up from is_new h =
        let one = one_tried task (clause_on places task.table.tree at project ∷ []) db terms width source (row new) done uncounted from is_new h in
        let it = upserts is db xs one.0 has up one.2 in
        (it.0, it.1, subst (IsPut key row task db xs it.0) (sym one.1) it.2)
