-- What looks at the store of a desk, and what the desk then is.
use Rattle.std.specs.Prelude.{◌≡◌, ℕ, Bool, false, List, Option, Result, Ok, Err, OnOk, IfErr, IsTrue}
use Rattle.store_api.specs.Sight.{HasStill, Sight}
use Rattle.store_api.specs.declared.fault.StorageFault.TheVariants as storagefault
use Rattle.desk.specs.{Faults.closes, Faults.storage_fault, State.DeskState, declared.looking.LookFault.LookFault}
use Rattle.desk.specs.declared.looking.LookFault.TheVariants as lookfault

-- whether the desk is closed after a fault of a look: after one by which a call would close it; a writer that failed closes none
abbrev pub look_closes : LookFault → Bool
look_closes (lookfault.Storage why) = closes (storage_fault why)
look_closes lookfault.Output = false

-- and behind a look
abbrev pub is_closed_by_look : Result Unit LookFault → Bool
is_closed_by_look (Ok done) = false
is_closed_by_look (Err why) = look_closes why

-- what a look shows, by what its writer was given before it and has behind it, where these are known, and by the store before and after
abbrev pub Shown : Type 0 → Type 1
Shown S = (was is : Option (List ℕ)) → S → S → Result Unit LookFault → Type 0

module _ {S C : Type 0} (v : Sight S C) where
  -- a look changed nothing, whatever came of it; after a fault that closes the desk the tables may be out of reach
  pub record Looks (old new : S) (result : Result Unit LookFault) : Type 0 where
    pub honest : v.is_honest new → v.is_honest old
    pub left : v.is_honest new → (c : C) → v.leaves new c → v.leaves old c
    pub tables : OnOk result (HasStill v old new)
    pub after_fault : IfErr result (λ why. look_closes why ≡ false → HasStill v old new)

  -- a look at an open desk, which is closed after some faults
  pub record LooksOpen (Shows : Shown S) (was is : Option (List ℕ)) (old new : DeskState S) (result : Result Unit LookFault) : Type 0 where
    pub shows : Shows was is old.store new.store result
    pub looks : Looks old.store new.store result
    pub flag : new.is_closed ≡ is_closed_by_look result

  -- a look at a desk, open or closed: a closed one is untouched, and nothing is written of it
  pub record LooksAt (Shows : Shown S) (was is : Option (List ℕ)) (old new : DeskState S) (result : Result Unit LookFault) : Type 0 where
    pub when_open : old.is_closed ≡ false → LooksOpen Shows was is old new result
    pub when_closed : IsTrue old.is_closed → (result ≡ Err (lookfault.Storage storagefault.Reopen)) × ((new ≡ old) × (is ≡ was))
    pub policy : new.policy ≡ old.policy
