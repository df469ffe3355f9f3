-- The parts of a statement, and INSERT of one row where no foreign key acts.
use Rattle.std.proofs.Common.{◌≡◌, ◌≢◌, ℕ, ℤ, List, [], ◌∷◌, map, None, Ok, refl, sym, ap, subst, ◌∙◌, arith, rules}
use Rattle.sqlite_value.specs.Order.{Row}
use Rattle.sqlite_trees.specs.Tree.{Trees, put_row}
use Rattle.sqlite_schema.specs.declared.{command.Command.Command, schema.Keys.TheVariants.Enforced, schema.Table.Table}
use Rattle.sqlite_rules.specs.Edit.{IsNoIndex, edit_of, taken_by, Applies}
use Rattle.sqlite_rules.specs.{declared.error.Rowids.Rowids, declared.error.Rowids.TheVariants.Given, Cast.cast_row, Action.works}
use Rattle.sqlite.specs.{Does.Concludes, Does.Does, Does.Tally, Effect.Database, Effect.IsDatabase, Listing.understood, Rows.Edited, Rows.Gives, Rows.Task}
use Rattle.sqlite.specs.{Rows.Then, Rows.Written, Rows.Puts, State.State, State.mode_of, State.Executes, State.Runs, State.Writes}
use Rattle.sqlite.proofs.Callers.{IsPlain, command_of, one_step, runs_as, statement_of}
use Rattle.sql_schema.proofs.Making.{same_value, went}
use Rattle.sql_schema.specs.{Advances.Advances, Advances.Performs, Schema.desk_schema}
use Rattle.sql_tables.specs.{Effects.BecomesRows, Layouts.IsRising, Layouts.Layout}

-- ---- a text that is run

-- over the schema of a desk the text means this command alone
pub record Means (text : List ℕ) (command : Command) : Type 0 where
  pub is : command_of (understood desk_schema text) ≡ command
  pub plain : IsPlain (understood desk_schema text)

-- what its command did
pub record HasDone (text : List ℕ) (params : Row) (command : Command) (old new : State) : Type 0 where
  pub sound : IsDatabase new.now
  pub tally : Tally
  pub did : Does old.step_limit (mode_of old) params (record old.now { schema = desk_schema }) (statement_of text (understood desk_schema text)) None
      command (Ok (tally, new.now))

-- it was run
pub ran : (text : List ℕ) (params : Row) (command : Command) (old new : State) (count : ℕ) → Means text command → old.now.schema ≡ desk_schema
    → Executes text params old new (Ok count) → Runs old new None command (statement_of text (understood desk_schema text)) params count
ran text params command old new count means has = runs_as text params old new desk_schema has command means.is means.plain count

-- and wrote
pub has_done : (text : List ℕ) (params : Row) (command : Command) (old new : State) (count : ℕ) → old.now.schema ≡ desk_schema
    → Writes old new None command (statement_of text (understood desk_schema text)) params count → HasDone text params command old new
has_done text params command old new count has w = record {
  sound = w.sound;
  tally = w.tally;
  did = subst (λ s. Does old.step_limit (mode_of old) params (record old.now { schema = s }) (statement_of text (understood desk_schema text)) None
      command (Ok (w.tally, new.now))) has w.changed;
}

-- what a statement on this table reads
abbrev pub task_of : State → Table → Row → Task
task_of old table params = record { limit = old.step_limit; keys = Enforced; schema = desk_schema; table = table; params = params }

-- so its table has the rows that it wrote
pub becomes : {X : Type 0} (L : Layout X) (old new : State) (params : Row) (rows : List X) (w : Written) (tally : Tally) → IsDatabase new.now
    → Concludes (task_of old L.table params) (mode_of old) None w (Ok (tally, new.now)) → IsRising L.key rows
    → (w.trees L.table.tree ≡ map L.image rows) × ((t : ℕ) → t ≢ L.table.tree → IsNoIndex desk_schema t → w.trees t ≡ old.now.trees t)
    → BecomesRows L rows old.now new.now
becomes L old new params rows w tally sound ends up wrote = grind arith

-- run with the parameters of a row, the text does this of it
abbrev pub Carries : {X : Type 0} → List ℕ → (X → Row) → (X → Database → Database → Type 0) → Type 1
Carries {X} text params Does =
    (x : X) (old new : State) (values : Row) → values ≡ params x → (count : ℕ) → Performs text values old new (Ok count) → Advances old new (Does x)

-- it does so inside a transaction, where it does so at all
pub carries : {X : Type 0} (text : List ℕ) (params : X → Row) (Does : X → Database → Database → Type 0)
    → ((old new : State) (x : X) (count : ℕ) → Executes text (params x) old new (Ok count) → Does x old.now new.now) → Carries text params Does
carries text params Does does x old new values are count ran = grind arith

-- ---- where no foreign key acts

-- none acts on the table
abbrev pub NoWorks : Task → Type 0
NoWorks task = (olds news : List Row) → works task.schema task.keys 0 task.table.tree olds news ≡ []

-- the foreign keys of a desk have no actions, whether rows go or change
pub no_works : (tree : ℕ) (olds news : List Row) → works desk_schema Enforced 0 tree olds news ≡ []
no_works tree olds news = search rules

module _ (task : Task) (calm : NoWorks task) where
  -- an edit of its rows is its one step
  pub edits : (db : Trees) (gone : List ℤ) (rowids : Rowids) (from : ℕ) (rows : List Row) (wrote : Trees → Written) (w : Written)
      → Then (Edited task.schema task.keys db (edit_of db task.table gone rowids from rows)) (λ next. Gives (wrote next)) (Ok w)
      → ((next : Trees) → (wrote next).trees ≡ next) → Applies task.schema task.keys db (edit_of db task.table gone rowids from rows) w.trees
  edits db gone rowids from rows wrote w h trees =
      let did = went h in
      let edit = edit_of db task.table gone rowids from rows in
      subst (Applies task.schema task.keys db edit) (sym (ap (λ (it : Written). it.trees) (same_value did.2) ∙ trees did.0))
      (one_step task.schema task.keys db did.0 edit (calm (taken_by db edit) edit.news) did.1)

  -- the row is there then
  pub puts : (db : Trees) (new : Row) (w : Written) → Puts task new db (Ok w)
      → (w.trees task.table.tree ≡ put_row (cast_row task.table new) (db task.table.tree))
      × ((t : ℕ) → t ≢ task.table.tree → IsNoIndex task.schema t → w.trees t ≡ db t)
  puts db new w h = let it = edits db [] Given 0 (new ∷ []) _ w h (λ next. refl) in (it.rows, it.others)
