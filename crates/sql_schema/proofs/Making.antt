-- CREATE TABLE and CREATE INDEX as steps, from what their texts mean.
use Rattle.std.proofs.Common.{◌≡◌, ◌⊎◌, inl, inr, ℕ, ◌++◌, List, [], ◌∷◌, slice_get, false, None, Some, Ok, Err, Result, sym, ap, subst, ◌∙◌, arith}
use Rattle.std.proofs.lemmas.Bool.Decides.{nat_tests}
use Rattle.std.specs.List.{AllByRecursion}
use Rattle.sqlite.specs.{Tree.Trees, Listing.understood, Compile.table_defined_by, Compile.index_defined_by, Change.created, Change.indexed, Change.next_tree}
use Rattle.sqlite.specs.{Change.KeepsRows, Does.Tally, Does.Does, Does.lacks_sequence, Effect.Database, Effect.IsDatabase, State.State, State.mode_of}
use Rattle.sqlite.specs.{State.Writes, State.Executes}
use Rattle.sqlite_schema.specs.declared.schema.{Table.Table, Index.Index, Schema.Schema}
use Rattle.sqlite_schema.specs.declared.command.Command.TheVariants.{CreateTable, CreateIndex}
use Rattle.sqlite.proofs.Callers.{IsPlain, command_of, statement_of, runs_as}
use Rattle.sql_schema.specs.Defined.{AreEmpty}

-- the text makes this table, and of the one schema the other
pub record MakesTable (schema next : Schema) (text : List ℕ) : Type 0 where
  pub table : Table
  pub command : command_of (understood schema text) ≡ CreateTable
  pub statement : statement_of text (understood schema text) ≡ text
  pub plain : IsPlain (understood schema text)
  pub defined : table_defined_by text ≡ Ok table
  pub next_is : created schema table ≡ next
  pub uncounted : lacks_sequence next ≡ false

-- the text makes this index of the table at this place
pub record MakesIndex (schema next : Schema) (text : List ℕ) : Type 0 where
  pub at : ℕ
  pub table : Table
  pub index : Index
  pub found : slice_get schema.tables at ≡ Some table
  pub command : command_of (understood schema text) ≡ CreateIndex at
  pub statement : statement_of text (understood schema text) ≡ text
  pub plain : IsPlain (understood schema text)
  pub defined : index_defined_by table text ≡ Ok index
  pub next_is : indexed schema table index ≡ next

-- the text makes the one or the other
abbrev pub Makes : Schema → Schema → List ℕ → Type 0
Makes schema next text = MakesTable schema next text ⊎ MakesIndex schema next text

-- no table of the old schema has a row, and none of the new one
abbrev pub MovesOn : Schema → Schema → Database → Database → Type 0
MovesOn schema next old new = old.schema ≡ schema → AreEmpty schema old.trees → (new.schema ≡ next) × AreEmpty next new.trees

-- a part that gave a value did not stop on the way
pub went : {B E R : Type 0} {b : B} {Stops : E → Type 0} → ((stop : E) × Stops stop × (Ok b ≡ Err stop)) ⊎ R → R
went h = grind (arith, nat_tests)

-- one value, if the answers are one
pub same_value : {B E : Type 0} {a b : B} → ◌≡◌ {A = Result B E} (Ok a) (Ok b) → a ≡ b
same_value e = cc

-- tables that keep their rows are as empty as before
kept_empty : (tables : List Table) (old new : Trees) → KeepsRows tables old new → AllByRecursion (λ t. old t.tree ≡ []) tables
    → AllByRecursion (λ t. new t.tree ≡ []) tables
kept_empty [] old new kept empty = tt
kept_empty (t ∷ ts) old new kept empty = (kept.0 ∙ empty.0, kept_empty ts old new kept.1 empty.1)

-- what holds of all tables and of one more
one_more : (P : Table → Type 0) (tables : List Table) (t : Table) → AllByRecursion P tables → P t → AllByRecursion P (tables ++ t ∷ [])
one_more P [] t all own = (own, tt)
one_more P (x ∷ xs) t all own = (all.0, one_more P xs t all.1 own)

-- the table is there, without a row, and each table of the old schema has its rows
pub record IsWider (schema next : Schema) (old new : Database) : Type 0 where
  pub sound : IsDatabase new
  pub schema_is : new.schema ≡ next
  pub empty : new.trees (next_tree schema) ≡ []
  pub kept : KeepsRows schema.tables old.trees new.trees

-- CREATE TABLE, whatever rows there are
pub widens : (schema next : Schema) (text : List ℕ) → MakesTable schema next text → (old new : State) (count : ℕ)
    → Executes text [] old new (Ok count) → old.now.schema ≡ schema → IsWider schema next old.now new.now
widens schema next text m old new count h has =
    let w = subst (λ t. Writes old new None CreateTable t [] count) m.statement (runs_as text [] old new schema has CreateTable m.command m.plain count h) in
    let all = went w.changed in
    let first = went all.1 in
    let made = first.1 in
    let both : Ok made.table ≡ Ok m.table = sym made.defined ∙ m.defined in
    let same : made.table ≡ m.table = cc in
    let is : first.0.schema ≡ created schema m.table = made.is ∙ ap (λ s. created s made.table) has ∙ ap (created schema) same in
    let plain : lacks_sequence first.0.schema ≡ false = ap lacks_sequence (is ∙ m.next_is) ∙ m.uncounted in
    let now : new.now ≡ first.0 = ap (λ (p : Tally × Database). p.1) (same_value all.2) ∙ same_value (rw plain at first.2) in
    let others = subst (λ s. KeepsRows s.tables old.now.trees first.0.trees) has made.others in
    let own : first.0.trees (next_tree schema) ≡ [] = subst (λ s. first.0.trees (next_tree s) ≡ []) has made.empty in
    record {
      sound = w.sound;
      schema_is = ap (λ (d : Database). d.schema) now ∙ is ∙ m.next_is;
      empty = subst (λ (d : Database). d.trees (next_tree schema) ≡ []) (sym now) own;
      kept = subst (λ (d : Database). KeepsRows schema.tables old.now.trees d.trees) (sym now) others;
    }

-- CREATE TABLE, where there are none
makes_table : (schema next : Schema) (text : List ℕ) → MakesTable schema next text → (old new : State) (count : ℕ)
    → Executes text [] old new (Ok count) → MovesOn schema next old.now new.now
makes_table schema next text m old new count h has empty =
    let wide = widens schema next text m old new count h has in
    let kept = kept_empty schema.tables old.now.trees new.now.trees wide.kept empty in
    let all_empty : AreEmpty (created schema m.table) new.now.trees =
    one_more (λ t. new.now.trees t.tree ≡ []) schema.tables (record m.table { tree = next_tree schema }) kept wide.empty in
    (wide.schema_is, subst (λ s. AreEmpty s new.now.trees) m.next_is all_empty)

-- CREATE INDEX
makes_index : (schema next : Schema) (text : List ℕ) → MakesIndex schema next text → (old new : State) (count : ℕ)
    → Executes text [] old new (Ok count) → MovesOn schema next old.now new.now
makes_index schema next text m old new count h has empty =
    let w = subst (λ t. Writes old new None (CreateIndex m.at) t [] count) m.statement
    (runs_as text [] old new schema has (CreateIndex m.at) m.command m.plain count h) in
    let d = subst
    (λ s. Does old.step_limit (mode_of old) [] (record old.now { schema = s }) text None (CreateIndex m.at) (Ok (w.tally, new.now))) has
    w.changed in
    let all = went (rw (m.found) at d) in
    let made = all.1 in
    let both : Ok made.index ≡ Ok m.index = sym made.defined ∙ m.defined in
    let same : made.index ≡ m.index = cc in
    let is : all.0.schema ≡ indexed schema m.table m.index = made.is ∙ ap (indexed schema m.table) same in
    let now : new.now ≡ all.0 = ap (λ (p : Tally × Database). p.1) (same_value all.2) in
    let all_empty : AreEmpty (indexed schema m.table m.index) all.0.trees = kept_empty schema.tables old.now.trees all.0.trees made.rows empty in (
      ap (λ (d : Database). d.schema) now ∙ is ∙ m.next_is,
      subst
          (λ (d : Database). AreEmpty next d.trees) (sym now) (subst (λ s. AreEmpty s all.0.trees) m.next_is all_empty),
    )

-- the one or the other
pub makes : (schema next : Schema) (text : List ℕ) → Makes schema next text → (old new : State) (count : ℕ) → Executes text [] old new (Ok count)
    → MovesOn schema next old.now new.now
makes schema next text (inl m) = makes_table schema next text m
makes schema next text (inr m) = makes_index schema next text m
