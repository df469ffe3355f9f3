-- What may be said of what keeps the tables of a desk: rows in memory, or a file behind a disk.
use Rattle.std.specs.Prelude.{◌≡◌, ◌⊎◌, Result, Err, OnOk, IfErr, IfOk}
use Rattle.desk_model.specs.Tables.{Tables}
use Rattle.store_api.specs.declared.fault.StorageFault.{StorageFault}
use Rattle.store_api.specs.declared.fault.StorageFault.TheVariants as fault

-- the members of a store of type S, of which a stop leaves a content of type C
pub record Sight (S C : Type 0) : Type 1 where
  -- so far the disk has returned what was written, and nobody else wrote
  pub is_honest : S → Type 0
  -- the store has these tables
  pub holds : S → Tables → Type 0
  -- a stop now may leave this content
  pub leaves : S → C → Type 0
  -- the content has these tables
  pub has : C → Tables → Type 0
  -- a look-up that found the one store and left the other failed by this fault, since what keeps the tables did
  pub fails : S → S → StorageFault → Type 0

module _ {S C : Type 0} (v : Sight S C) where
  -- the store has these tables, and a stop leaves them alone
  pub record Keeps (s : S) (T : Tables) : Type 0 where
    pub tables : v.holds s T
    pub left : (c : C) → v.leaves s c → v.has c T

  -- the store still has the tables that it had
  abbrev pub HasStill : S → S → Type 0
  HasStill old new = v.is_honest new → (T : Tables) → v.holds old T → v.holds new T

  -- what is so of the tables that the store had, where it is honest to the end
  abbrev pub ForTables : S → S → (Tables → Type 0) → Type 0
  ForTables old new P = v.is_honest new → (T : Tables) → v.holds old T → P T

  -- nothing changed: the store has what it had, and a stop leaves no more than it did
  pub record Unchanged (old new : S) : Type 0 where
    pub honest : v.is_honest new → v.is_honest old
    pub left : v.is_honest new → (c : C) → v.leaves new c → v.leaves old c
    pub tables : HasStill old new

  -- up to a look-up that failed by this fault nothing changed
  pub record FailsBy (old new : S) (why : StorageFault) : Type 0 where
    pub from : S
    pub unchanged : Unchanged old from
    pub fails : v.fails from new why

  -- a call changed nothing, whatever came of it; after a fault other than memory's the tables may be out of reach
  pub record LeavesUnchanged {R : Type 0} (old new : S) (result : Result R StorageFault) : Type 0 where
    pub honest : v.is_honest new → v.is_honest old
    pub left : v.is_honest new → (c : C) → v.leaves new c → v.leaves old c
    pub tables : OnOk result (HasStill old new)
    pub without_memory : IfErr result (λ why. why ≡ fault.Memory → HasStill old new)

  -- of tables it failed only for want of memory, or since what keeps the tables failed in a look-up
  abbrev pub IsCaused : {R : Type 0} → S → S → Result R StorageFault → Type 0
  IsCaused old new result = ForTables old new (λ T. IfErr result (λ why. (why ≡ fault.Memory) ⊎ FailsBy old new why))

  -- a call that looks things up changed nothing, and failed only so
  pub record Reads {R : Type 0} (old new : S) (result : Result R StorageFault) : Type 0 where
    pub honest : v.is_honest new → v.is_honest old
    pub left : v.is_honest new → (c : C) → v.leaves new c → v.leaves old c
    pub tables : OnOk result (HasStill old new)
    pub without_memory : IfErr result (λ why. why ≡ fault.Memory → HasStill old new)
    pub failed : IsCaused old new result

  -- so did a look-up, and this is so of what it gave
  pub record Gives {R : Type 0} (old new : S) (P : Tables → R → Type 0) (result : Result R StorageFault) : Type 0 where
    pub reads : Reads old new result
    pub found : ForTables old new (λ T. IfOk result (P T))

  -- a call that looks things up failed so, and changed nothing
  abbrev pub FailsToRead : S → S → StorageFault → Type 0
  FailsToRead old new why = Reads {R = Unit {0}} old new (Err why)

  -- a store that was opened on this content has its tables
  abbrev pub Opens : C → S → Type 0
  Opens c new = (T : Tables) → v.has c T → Keeps new T

  -- an opening that failed left no less than there was
  abbrev pub FailsToOpen : C → C → Type 0
  FailsToOpen c left = (T : Tables) → v.has c T → v.has left T
