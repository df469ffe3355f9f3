-- What a call inside a transaction does.
use Rattle.std.specs.Prelude.{◌≡◌, ◌⊎◌, ℕ, List, Result, IsTrue}
use Rattle.sqlite.specs.State.{State, HasCleanDisk, IsRolledBack, IsUnchanged, ExecutesInside}
use Rattle.sqlite.specs.{Order.Row, Effect.Database, declared.error.Error.Error}

-- a statement was run, or failed
abbrev pub Performs : List ℕ → Row → State → State → Result ℕ Error → Type 0
Performs text params old new result = HasCleanDisk new → IsTrue old.in_transaction → ExecutesInside 0 text params old new result

-- while the connection is open, the last commit is as it was
abbrev pub KeepsLast : State → State → Type 0
KeepsLast old new = HasCleanDisk new → IsTrue old.in_transaction → IsTrue new.is_open → new.committed ≡ old.committed

-- the transaction goes on, nothing is committed, and the database changed so
pub record HasAdvanced (old new : State) (Does : Database → Database → Type 0) : Type 0 where
  pub inside : IsTrue new.in_transaction
  pub is_open : IsTrue old.is_open → IsTrue new.is_open
  pub committed : new.committed ≡ old.committed
  pub does : Does old.now new.now

-- the same, where a transaction was open and the disk is honest
abbrev pub Advances : State → State → (Database → Database → Type 0) → Type 0
Advances old new Does = HasCleanDisk new → IsTrue old.in_transaction → HasAdvanced old new Does

-- a call that was not answered leaves the transaction as it was, or a failure of memory or the disk has undone it
abbrev pub Declines : State → State → Type 0
Declines old new = HasCleanDisk new → IsTrue old.in_transaction → IsUnchanged old new ⊎ IsRolledBack old new
