-- What making a desk leaves.
use Rattle.std.specs.Prelude.{◌≡◌, ◌==◌, ◌||◌, ℕ, Bool, None, length, not}
use Rattle.sqlite.specs.{Held.Held, Schema.Schema, State.State, Store.Ghosts, Tree.Trees}
use Rattle.desk_model.specs.{History.first_history, Terms.Terms, Tables.picture, declared.rows.Meta.Meta}
use Rattle.sql_write.specs.{Statements.make_statements, Fits.FitsMeta}
use Rattle.sql_schema.specs.Schema.{no_schema}
use Rattle.store_api.specs.declared.fault.StorageFault.{StorageFault}
use Rattle.desk_store.specs.Desks.{AreOfDesk, HasDesk}
use Rattle.desk_store.specs.{Causes.FailedToSave, declared.open_fault.OpenFault.OpenFault, declared.open_fault.OpenFault.TheVariants.Storage}

-- a table, an index or a view is there
abbrev pub has_objects : Schema → Bool
has_objects schema = (not (length schema.tables == 0) || not (length schema.indexes == 0)) || not (length schema.views == 0)

-- what a stop in the commit leaves, where there was nothing: the new desk
abbrev pub IsNewDesk : Terms → ℕ → State → Trees → Type 0
IsNewDesk policy at old trees = old.now.schema ≡ no_schema → AreOfDesk trees (picture (first_history policy at))

-- the connection has the new desk, and a stop leaves that alone
pub record IsMade (policy : Terms) (at : ℕ) (new : State) : Type 0 where
  pub desk : HasDesk new (picture (first_history policy at))
  pub left : (trees : Trees) → new.may_leave trees → AreOfDesk trees (picture (first_history policy at))

-- the row of `meta` of a new desk
abbrev pub new_meta : Terms → ℕ → Meta
new_meta policy at = (picture (first_history policy at)).meta

-- where there was nothing and no limit on steps, there is the new desk
abbrev pub Makes : Terms → ℕ → State → State → Type 0
Makes policy at old new = old.now.schema ≡ no_schema → old.step_limit ≡ None → IsMade policy at new

-- the tables and indexes of a new desk, or its row of `meta`, were not saved
abbrev pub FailedToDefine : {S : Type 0} → Ghosts S → Terms → ℕ → Held S → Held S → StorageFault → Type 0
FailedToDefine g policy at = FailedToSave g (FitsMeta (new_meta policy at)) (make_statements (new_meta policy at))

-- a making failed so
abbrev pub FailedToMake : {S : Type 0} → Ghosts S → Terms → ℕ → Held S → Held S → OpenFault → Type 0
FailedToMake g policy at old new f = (why : StorageFault) × (f ≡ Storage why) × FailedToDefine g policy at old new why

-- the store failed
abbrev pub IsOfStorage : OpenFault → Type 0
IsOfStorage f = (why : StorageFault) × (f ≡ Storage why)
