-- What a call that changes nothing leaves of a connection.
use Rattle.std.specs.Prelude.{◌≡◌, false, IsTrue}
use Rattle.sqlite.specs.State.{State, HasCleanDisk, Survives}

-- what an open connection shows is what it showed, or the last commit
pub record Stays (old new : State) : Type 0 where
  pub was_open : IsTrue new.is_open → IsTrue old.is_open
  pub committed : IsTrue new.is_open → new.committed ≡ old.committed
  pub now : IsTrue new.is_open → old.now ≡ old.committed → new.now ≡ old.committed

-- the call changes nothing, and may fail; a failure ends the transaction, and one of the disk may shut the connection
pub record Asks (old new : State) : Type 0 where
  pub survives : Survives old new (λ _. ⊥)
  pub stays : HasCleanDisk new → Stays old new
  pub idle : old.in_transaction ≡ false → new.in_transaction ≡ false
