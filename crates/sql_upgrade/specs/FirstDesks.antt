-- Desks in a file of format 1, and what becomes of them.
use Rattle.std.specs.Prelude.{◌≡◌, false, None, IsTrue}
use Rattle.sqlite.specs.{Effect.Database, State.State, Tree.Trees}
use Rattle.model_laws.specs.FirstLaws.{AreUnderKeysNow, KeepsKeys}
use Rattle.desk_model.specs.{Entry.History, Legal.Legal, Tables.Tables, Tables.picture}
use Rattle.sql_write.specs.{Committing.IsLeft, Upgrading.AreKeysOf}
use Rattle.sql_tables.specs.Holds.{Holds, HoldsFirst}
use Rattle.sql_upgrade.specs.declared.additions.Additions.{Additions}
use Rattle.store_book.specs.IsBook.{IsStoredBook}

-- the database holds these tables in format 1, and they are a book that a file can hold, whatever statuses its rows store; format 1
-- tells no keys of answers, and each answer was under the key that its account has
pub record IsFirstDesk (db : Database) (T : Tables) : Type 0 where
  pub holds : HoldsFirst db T
  pub book : IsStoredBook T
  pub keys : AreUnderKeysNow T

-- such are the tables of a legal history in which no account got another key
abbrev pub PicturesAreFirstDesks : Type 0
PicturesAreFirstDesks = (db : Database) (F : History) → Legal F → KeepsKeys F → HoldsFirst db (picture F) → IsFirstDesk db (picture F)

-- these are the row of the desk and the keys of all answers
pub record IsAdded (additions : Additions) (T : Tables) : Type 0 where
  pub meta : additions.meta ≡ T.meta
  pub keys : AreKeysOf additions.keys.items T

-- they are so of whatever desk the database holds in format 1
abbrev pub AreOfDesks : Database → Additions → Type 0
AreOfDesks db additions = (T : Tables) → IsFirstDesk db T → IsAdded additions T

-- whatever desk the database holds in format 1 to which these are added, it then holds it in format 2
abbrev pub UpgradesDesk : Additions → Database → Database → Type 0
UpgradesDesk additions old new = (T : Tables) → IsFirstDesk old T → IsAdded additions T → Holds new T

-- ---- over a connection

-- between transactions an open connection without a limit on steps has this desk in format 1
pub record HasFirst (s : State) (T : Tables) : Type 0 where
  pub is_open : IsTrue s.is_open
  pub idle : s.in_transaction ≡ false
  pub unlimited : s.step_limit ≡ None
  pub settled : s.now ≡ s.committed
  pub desk : IsFirstDesk s.now T

-- such a connection has these tables in format 2, and a stop leaves them alone
pub record HasSecond (s : State) (T : Tables) : Type 0 where
  pub is_open : IsTrue s.is_open
  pub idle : s.in_transaction ≡ false
  pub unlimited : s.step_limit ≡ None
  pub settled : s.now ≡ s.committed
  pub holds : Holds s.now T
  pub left : (trees : Trees) → s.may_leave trees → IsLeft (λ db. Holds db T) trees

-- whatever desk the connection had in format 1 to which these are added, it has it in format 2
abbrev pub BringsDesk : Additions → State → State → Type 0
BringsDesk additions old new = (T : Tables) → HasFirst old T → IsAdded additions T → HasSecond new T
