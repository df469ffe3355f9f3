-- When a connection holds a desk, and what a stop leaves of it.
use Rattle.std.specs.Prelude.{◌≡◌, false, None, IsTrue}
use Rattle.sqlite.specs.{Effect.Database, Held.state, Store.Ghosts, Tree.Trees, State.State, State.HasCleanDisk}
use Rattle.desk_model.specs.{Entry.History, Legal.Legal, Tables.Tables, Tables.picture}
use Rattle.store_api.specs.Sight.{Sight}
use Rattle.desk_store.specs.{Causes.FailsToLookUp, Known.IsKnownOf, declared.store.Store.Store}
use Rattle.sql_tables.specs.Holds.{Holds}
use Rattle.store_book.specs.IsBook.{IsStoredBook}

-- the database holds these tables, and they are a book that a file can hold, whatever statuses its rows store
pub record IsDesk (db : Database) (T : Tables) : Type 0 where
  pub holds : Holds db T
  pub book : IsStoredBook T

-- so are the tables of a legal history
abbrev pub PicturesAreDesks : Type 0
PicturesAreDesks = (db : Database) (F : History) → Legal F → Holds db (picture F) → IsDesk db (picture F)

-- between transactions an open connection without a limit on steps has these tables
pub record HasDesk (s : State) (T : Tables) : Type 0 where
  pub is_open : IsTrue s.is_open
  pub idle : s.in_transaction ≡ false
  pub unlimited : s.step_limit ≡ None
  pub settled : s.now ≡ s.committed
  pub desk : IsDesk s.now T

-- what a stop leaves are the trees of a database with these tables
abbrev pub AreOfDesk : Trees → Tables → Type 0
AreOfDesk trees T = (db : Database) × (trees ≡ db.trees) × IsDesk db T

-- a store has these tables where its connection has them, and what it knows is so of them
pub record HasTables {S : Type 0} (g : Ghosts S) (store : Store S) (T : Tables) : Type 0 where
  pub desk : HasDesk (state g store.conn) T
  pub known : IsKnownOf store.known T

-- what may be said of a store
abbrev pub store_sight : {S : Type 0} → Ghosts S → Sight (Store S) Trees
store_sight g = record {
  is_honest = λ store. HasCleanDisk (state g store.conn);
  holds = HasTables g;
  leaves = λ store trees. (state g store.conn).may_leave trees;
  has = AreOfDesk;
  fails = λ old new why. FailsToLookUp g old.conn new.conn why;
}
