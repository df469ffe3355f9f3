-- What a text that puts a row by its key does, from what the text means.
use Rattle.std.proofs.Common.{◌≡◌, ℕ, zero, suc, pos, ◌+◌, ◌++◌, inl, inr, List, [], ◌∷◌, drop, length, ◌/◌, false, Some, Ok, slice_get, ap, subst, ◌∙◌, arith}
use Rattle.std.proofs.Common.{rules}
use Rattle.std.specs.Ordering.{is_eq}
use Rattle.sqlite.specs.{declared.types.Value.TheVariants.Int, declared.types.Value.TheVariants.Null, Effect.value_rows, Listing.understood, Rows.shown}
use Rattle.sqlite.specs.{Rows.rowids_for, Rows.stamped, State.State, State.Executes}
use Rattle.sqlite_value.specs.Order.{Row, column}
use Rattle.sqlite_trees.specs.Tree.{Trees, rowid}
use Rattle.sqlite_sql.specs.{Term.Term, Term.col, Term.lit, Term.eval_all, Program.overlay}
use Rattle.sqlite_schema.specs.declared.command.{Command.TheVariants.InsertOr, Conflict.TheVariants.Abort, Source.TheVariants.Values}
use Rattle.sqlite_rules.specs.{Cast.cast_row, Edit.with_rowid, Keys.conflicts, declared.error.Rowids.Rowids}
use Rattle.sqlite.proofs.Callers.{IsPlain, command_of}
use Rattle.desk_model.specs.Change.{put}
use Rattle.sql_schema.proofs.Making.{went}
use Rattle.sql_schema.specs.Schema.{desk_schema}
use Rattle.sql_tables.specs.{Effects.Puts, Layouts.Layout}
use Rattle.sql_tables.proofs.Inserts.{Carries, Means, becomes, carries, has_done, no_works, ran, task_of}
use Rattle.sql_tables.proofs.{Keyed.put_ascends, Keyed.same_of_eq, Keyed.three, Upsert.IsPut, Upsert.clause_on, Upsert.keeps_id, Upsert.puts_settled}

-- the values at so many places, from this one on
abbrev columns : ℕ → ℕ → List Term
columns from zero = []
columns from (suc n) = col 0 from ∷ columns (from + 1) n

-- the row that is inserted, in terms of the parameters, which are its key and so many columns more: NULL stands in the column of the key
abbrev pub inserted_terms : ℕ → List Term
inserted_terms more = col 0 0 ∷ lit Null ∷ columns 1 more

-- the row that the update makes, by the number of the one that is there, and by the one that is not inserted
abbrev pub updated_terms : ℕ → List Term
updated_terms more = col 1 0 ∷ col 1 0 ∷ lit Null ∷ columns (more + 4) more

-- the table of the layout has this place in the schema, and its rows are numbered by the key
pub record IsKeyed {X : Type 0} (L : Layout X) (place : ℕ) : Type 0 where
  pub found : slice_get desk_schema.tables place ≡ Some L.table
  pub uncounted : L.table.is_counted ≡ false
  pub low : (db : Trees) → overlay db [] L.table.tree ≡ db L.table.tree
  pub first : (x : X) → rowid (L.image x) ≡ Int (pos (L.key x))

-- the text puts a row of the layout, whose parameters are these
pub record IsUpsert {X : Type 0} (L : Layout X) (params : X → Row) (text : List ℕ) : Type 0 where
  -- the place of the table in the schema, and how many columns there are beside the key
  pub place : ℕ
  pub more : ℕ
  pub means : Means text
      (InsertOr place Abort (Values (inserted_terms more) (more + 2)) (clause_on (0 ∷ []) L.table.tree (more + 1) (updated_terms more) ∷ []))
  pub table : IsKeyed L place
  -- each column keeps its value
  pub casts : (x : X) → cast_row L.table (L.image x) ≡ L.image x
  -- two rows clash where their keys are one
  pub clash : (x y : X) → conflicts (Some (0 ∷ [])) desk_schema.indexes L.table (L.image x) (L.image y) ≡ is_eq (three (L.key y) (L.key x))
  pub given : (x : X) (k : ℕ) → column (params x ++ Int (pos k) ∷ shown L.table (L.image x)) (more + 1) ≡ Int (pos k)
  pub sets : (x y : X) → L.key y ≡ L.key x
      → eval_all (updated_terms more) ((params x ++ Int (pos (L.key y)) ∷ shown L.table (L.image x)) ∷ L.image y ∷ []) ≡ Int (pos (L.key y)) ∷ L.image x
  pub source : (x : X) → value_rows (stamped L.table (params x)) (more + 2) (length (inserted_terms more) / (more + 2)) (inserted_terms more) ≡ L.image x ∷ []

-- it does, where all of this computes
unfoldable pub upsert_as : {X : Type 0} (L : Layout X) (params : X → Row) (text : List ℕ) (place more : ℕ)
    → command_of (understood desk_schema text)
    ≡ InsertOr place Abort (Values (inserted_terms more) (more + 2)) (clause_on (0 ∷ []) L.table.tree (more + 1) (updated_terms more) ∷ [])
    → IsPlain (understood desk_schema text) → slice_get desk_schema.tables place ≡ Some L.table → L.table.is_counted ≡ false
    → ((db : Trees) → overlay db [] L.table.tree ≡ db L.table.tree) → ((x : X) → rowid (L.image x) ≡ Int (pos (L.key x)))
    → ((x : X) → cast_row L.table (L.image x) ≡ L.image x)
    → ((x y : X) → conflicts (Some (0 ∷ [])) desk_schema.indexes L.table (L.image x) (L.image y) ≡ is_eq (three (L.key y) (L.key x)))
    → ((x : X) (k : ℕ) → column (params x ++ Int (pos k) ∷ shown L.table (L.image x)) (more + 1) ≡ Int (pos k))
    → ((x y : X) → L.key y ≡ L.key x
    → eval_all (updated_terms more) ((params x ++ Int (pos (L.key y)) ∷ shown L.table (L.image x)) ∷ L.image y ∷ []) ≡ Int (pos (L.key y)) ∷ L.image x)
    → ((x : X) → value_rows (stamped L.table (params x)) (more + 2) (length (inserted_terms more) / (more + 2)) (inserted_terms more) ≡ L.image x ∷ [])
    → IsUpsert L params text
upsert_as L params text at n is plain found uncounted low first casts clash given sets source = search rules

-- the number of the row that is there is the key of the new one
pub sets_key : {X : Type 0} (L : Layout X) (x y : X) → L.key y ≡ L.key x
    → Int (pos (L.key y)) ∷ Int (pos (L.key y)) ∷ drop 1 (L.image x) ≡ Int (pos (L.key y)) ∷ Int (pos (L.key x)) ∷ drop 1 (L.image x)
sets_key L x y same i = Int (pos (L.key y)) ∷ Int (pos (same i)) ∷ drop 1 (L.image x)

-- a row that comes keeps its columns, and its number
pub comes : {X : Type 0} (L : Layout X) (params : X → Row) (text : List ℕ) → IsUpsert L params text → (x : X) (rowids : Rowids) (rows : List Row)
    → with_rowid rowids rows (cast_row L.table (L.image x)) ≡ L.image x
comes L params text is x rowids rows = ap (with_rowid rowids rows) (is.casts x) ∙ keeps_id rowids rows (L.image x) (pos (L.key x)) (is.table.first x)

-- so it puts the row
puts_by : {X : Type 0} (L : Layout X) (params : X → Row) (text : List ℕ) → IsUpsert L params text → (old new : State) (x : X) (count : ℕ)
    → Executes text (params x) old new (Ok count)
    → Puts L x old.now new.now
puts_by L params text is old new x count h xs has =
    let did = has_done text (params x) _ old new count has.schema (ran text (params x) _ old new count is.means has.schema h) in
    let done = went (rw (is.table.found) at did.did) in
    let task = task_of old L.table (params x) in
    let it = puts_settled L.key L.image is.table.first task (no_works L.table.tree) is.casts is.table.low (is.more + 1) (updated_terms is.more)
    (0 ∷ []) x (λ y. is_eq (three (L.key y) (L.key x))) (λ _. x) (record {
      clash = is.clash x;
      kept = λ y tied. same_of_eq (L.key y) (L.key x) tied;
      given = is.given x;
      sets = λ y tied. is.sets x y (same_of_eq (L.key y) (L.key x) tied);
    }) old.now.trees xs (inserted_terms is.more) (is.more + 2) (L.image x) done.0 is.table.uncounted has.rows_are has.rising (is.source x)
    (λ top. comes L params text is x (rowids_for L.table top) (old.now.trees L.table.tree)) done.1 in
    let is_row : it.0 ≡ x = elim (it.1) [
      | inl tied ↦ tied.3
      | inr fresh ↦ fresh.1
    ] in
    becomes L old new (params x) (put L.key x xs) done.0 did.tally did.sound done.2 (put_ascends L.key 0 x xs (omega arith) has.rising)
    (subst (λ y. IsPut L.key L.image task old.now.trees xs y done.0.trees) is_row it.2)

-- inside a transaction, too
pub advances_by : {X : Type 0} (L : Layout X) (params : X → Row) (text : List ℕ) → IsUpsert L params text → Carries text params (Puts L)
advances_by L params text is = carries text params (Puts L) (puts_by L params text is)
