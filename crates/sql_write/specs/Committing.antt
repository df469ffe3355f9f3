-- What a transaction leaves, committed or not.
use Rattle.std.specs.Prelude.{◌≡◌, IsTrue}
use Rattle.sqlite.specs.{Effect.Database, Effect.IsDatabase, State.State, Tree.Trees}
use Rattle.desk_model.specs.Tables.{Tables}
use Rattle.sql_write.specs.declared.fault.{SaveFault.SaveFault, SaveFault.TheVariants.Row, SaveFault.TheVariants.Statement, SaveFault.TheVariants.Commit}
use Rattle.sql_tables.specs.Holds.{Holds}

-- what was done is committed, and a stop finds that and nothing else
pub record HasCommitted (old new : State) (Does : Database → Database → Type 0) : Type 0 where
  pub is_open : IsTrue new.is_open
  pub does : Does old.now new.committed
  pub settled : new.now ≡ new.committed
  pub left : (trees : Trees) → new.may_leave trees → trees ≡ new.committed.trees

-- a connection that is still open has what was committed before
pub record GoesBack (old new : State) : Type 0 where
  pub now : IsTrue new.is_open → new.now ≡ old.committed
  pub committed : IsTrue new.is_open → new.committed ≡ old.committed

-- a stop may leave the trees of a database that is changed so
abbrev pub IsLeft : (Database → Type 0) → Trees → Type 0
IsLeft Changed trees = (db : Database) × (trees ≡ db.trees) × Changed db

-- the fault came before the commit
abbrev pub IsBeforeCommit : SaveFault → Type 0
IsBeforeCommit (Row why) = Unit {0}
IsBeforeCommit (Statement error) = Unit {0}
IsBeforeCommit (Commit error) = ⊥

-- a database that is found on trees which a stop left of one with these tables has them, too
abbrev pub LeftTablesAreFound : Type 0
LeftTablesAreFound = (found : Database) (T : Tables) → IsDatabase found → IsLeft (λ db. Holds db T) found.trees → Holds found T
