-- A desk over a connection, and what is left once it was made or opened.
use Rattle.std.specs.Prelude.{◌≡◌, ◌⊎◌, ℕ, None, IsTrue}
use Rattle.sqlite.specs.{Held.Held, Held.state, State.State, State.HasCleanDisk, State.Survives, Store.Ghosts, Tree.Trees}
use Rattle.desk.specs.State.{DeskState}
use Rattle.desk_model.specs.{Tables.Tables, Terms.Terms}
use Rattle.sql_write.specs.Committing.{GoesBack}
use Rattle.sql_schema.specs.Schema.{no_schema}
use Rattle.store_api.specs.{Sight.Keeps, declared.fault.StorageFault.StorageFault}
use Rattle.desk_store.specs.Making.{FailedToMake, IsMade, IsNewDesk}
use Rattle.desk_store.specs.{Causes.LeavesNothing, Desks.store_sight, Opening.FailedToOpen, Opening.IsUpgraded, declared.open_fault.OpenFault.OpenFault}
use Rattle.desk_store.specs.{declared.open_fault.OpenFault.TheVariants.Storage, declared.store.Store.Store}

-- the store of a desk has these tables, which a stop leaves alone, and the desk has their policy
pub record IsDeskOf {S : Type 0} (g : Ghosts S) (T : Tables) (desk : DeskState (Store S)) : Type 0 where
  pub keeps : Keeps (store_sight g) desk.store T
  pub policy : desk.policy ≡ T.meta.policy

-- on an honest disk a stop leaves what it could leave before, or what was committed
pub record Leaves (old new : State) (Commits : Trees → Type 0) : Type 0 where
  pub honest : HasCleanDisk new → HasCleanDisk old
  pub left : HasCleanDisk new → (trees : Trees) → new.may_leave trees → old.may_leave trees ⊎ Commits trees

-- ---- a desk that was not made or opened

module _ {S : Type 0} (g : Ghosts S) where
  -- asked for its policy, the store failed, and wrote nothing
  pub record FailedToAsk (old new : Held S) (f : OpenFault) : Type 0 where
    pub why : StorageFault
    pub fault : f ≡ Storage why
    pub left : LeavesNothing (state g old) (state g new)

  -- the store was made or opened, to which a stop may leave this, and then failed
  pub record FailedBehind (Commits : Trees → Type 0) (old new : Held S) (f : OpenFault) : Type 0 where
    pub from : Held S
    pub done : Survives (state g old) (state g from) Commits
    pub asked : FailedToAsk from new f

  -- the making of the store failed, or its first look-up behind it
  abbrev pub FailedToMakeDesk : Terms → ℕ → Held S → Held S → OpenFault → Type 0
  FailedToMakeDesk policy at old new f = FailedToMake g policy at old new f ⊎ FailedBehind (IsNewDesk policy at (state g old)) old new f

  -- the opening of the store failed, or its first look-up behind it
  abbrev pub FailedToOpenDesk : Held S → Held S → OpenFault → Type 0
  FailedToOpenDesk old new f = FailedToOpen g old new f ⊎ FailedBehind (IsUpgraded (state g old)) old new f

-- a connection that is still open has what was committed before; or, where there was nothing and no limit on steps, the new desk
abbrev pub GoesBackOrIsMade : Terms → ℕ → State → State → Type 0
GoesBackOrIsMade policy at old new =
    GoesBack old new ⊎ (IsTrue new.is_open → old.now.schema ≡ no_schema → old.step_limit ≡ None → IsMade policy at new)
