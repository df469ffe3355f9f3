-- How a task ends that is done with the desk of two files, or with a new one in memory.
use Rattle.std.specs.Prelude.{◌≡◌, ◌≢◌, ◌⊎◌, ℕ, List, Option, None, Result, Ok, Err, IfErr, IfOk, IfSome, IsErrAnd}
use Rattle.sqlite.specs.{FileStore.recovers, Files.over_files, Recovery.Image, Steps.over_memory, Store.Ghosts, Tree.Trees}
use Rattle.sqlite_disk.specs.declared.Disk as disk
use Rattle.sqlite_disk.specs.declared.Files.{Files}
use Rattle.sqlite_store.specs.declared.store.FileStore.{FileStore}
use Rattle.sqlite_trees.specs.declared.memory.MemStore.{MemStore}
use Rattle.desk_files.specs.Opening.{FailedOver, FailedToMakeOver, FailsToMake, FoundNothing, LeavesAnOpening, LeavesAsFound, MakesFiles, OpensFiles}
use Rattle.desk_files.specs.Opening.{OpensKnown, RefusedBy, RefusesNoDatabase, RefusesNoDesk, RefusesObjects}
use Rattle.desk_files.specs.{Closing.EndsAsStop, Closing.KeepsInFile, Closing.WasHonest, declared.opening.NotOpened.NotOpened}
use Rattle.desk.specs.declared.fault.DeskFault.{DeskFault}
use Rattle.desk_model.specs.{History.first_history, Tables.picture, Terms.Terms}
use Rattle.store_api.specs.Sight.{Keeps}
use Rattle.desk_store.specs.{Causes.Failed, Desks.store_sight, Making.IsOfStorage}
use Rattle.desk_store.specs.declared.{open_fault.OpenFault.OpenFault, open_fault.OpenFault.TheVariants.NotADesk, store.Store.Store}
use Rattle.app_tasks.specs.{Doing.Deed, Doing.Doing, declared.begun.EmptyFile.EmptyFile}
use Rattle.app_files.specs.{Faults.open_fault, declared.holding.HeldFile.HeldFile, declared.left.Left.Left}
use Rattle.app_files.specs.declared.holding.HeldFile.TheVariants as held
use Rattle.app_files.specs.declared.left.Left.TheVariants as rest

-- no file was opened: there was one where none may be, or none with bytes; or the path could not be looked at
abbrev pub IsUntouched : OpenFault → Type 0
IsUntouched cause = (cause ≡ NotADesk) ⊎ IsOfStorage cause

module _ {D : Type 0} {g : disk.Ghosts D} where
  -- ---- what is left of the files of a desk

  -- the desk that the store had is in the database file, and a stop leaves what it could leave of the store, whose disk was honest if it
  -- was so to the end
  pub record IsClosed (store : Store (FileStore D g)) (files : Files D) : Type 0 where
    pub kept : KeepsInFile store files
    pub ended : EndsAsStop store files
    pub honest : WasHonest store files

  -- the log could not be copied: a stop leaves no more than it could leave of the store
  pub record IsUnclosed (store : Store (FileStore D g)) (cause : OpenFault) (last : FileStore D g) : Type 0 where
    pub fault : IsOfStorage cause
    pub left : (trees : Trees) → recovers last trees → recovers store.conn.store trees

  -- no file was reached: none was opened, or the engine could open none
  abbrev pub IsUnreached : Left D g → Type 0
  IsUnreached rest.Untouched = Unit {0}
  IsUnreached (rest.Unopened un) = (un.conn ≡ None) × (un.refused ≡ None)
  IsUnreached (rest.Closed files) = ⊥
  IsUnreached (rest.Unclosed last) = ⊥

  -- the closing of a store's files ended so, and left these
  abbrev pub IsLeft : Store (FileStore D g) → Result Unit OpenFault → Left D g → Type 0
  IsLeft store (Ok done) (rest.Closed files) = IsClosed store files
  IsLeft store (Err cause) (rest.Unclosed last) = IsUnclosed store cause last
  IsLeft store _ _ = ⊥

  -- the files were not reached; or the engine refused them, which held no database; or they hold no desk. A stop leaves what was there,
  -- or its desk of format 1 in today's format. The cause is that of the engine's error, or of the store's opening over their bytes
  pub record FailsToOpen (bytes : Image) (cause : OpenFault) (un : NotOpened (FileStore D g) D g) : Type 0 where
    pub unreached : un.conn ≡ None → un.refused ≡ None → IsOfStorage cause
    pub refused : IfSome un.refused (RefusesNoDatabase bytes cause)
    pub unopened : IfSome un.conn (RefusesNoDesk bytes cause)
    pub left : IfSome un.conn (LeavesAnOpening bytes)
    pub spared : IfSome un.conn (LeavesAsFound bytes cause)
    pub by_engine : IfSome un.refused (RefusedBy bytes cause)
    pub by_store : IfSome un.conn (FailedOver bytes cause)

  -- nothing was done with a store but to close its files, for this cause
  pub record IsDisplaced (store : Store (FileStore D g)) (cause : OpenFault) (left : Left D g) : Type 0 where
    pub fault : IsOfStorage cause
    pub closing : Result Unit OpenFault
    pub closed : IsLeft store closing left

  -- the desk of files with these bytes was opened, which were at the path no more
  pub record WasDisplaced (bytes : Image) (cause : OpenFault) (left : Left D g) : Type 0 where
    pub store : Store (FileStore D g)
    pub opens : OpensFiles bytes store
    pub shows : OpensKnown bytes store
    pub displaced : IsDisplaced store cause left

  -- no desk was opened in files with these bytes, for this cause, which left these
  abbrev pub IsRefused : Image → OpenFault → Left D g → Type 0
  IsRefused bytes cause rest.Untouched = IsUntouched cause
  IsRefused bytes cause (rest.Unopened un) = FailsToOpen bytes cause un
  IsRefused bytes cause _ = ⊥

  -- no desk was opened, or one that was at the path no more
  abbrev pub IsUnopened : Image → OpenFault → Left D g → Type 0
  IsUnopened bytes cause left = IsRefused bytes cause left ⊎ WasDisplaced bytes cause left

  -- ---- files that are held

  -- the files of a store are held, closed; or they could not be closed, for this cause
  abbrev pub IsShut : Store (FileStore D g) → Result (HeldFile D g) (OpenFault × Left D g) → Type 0
  IsShut store (Ok (held.Desk left)) = IsLeft store (Ok tt) left
  IsShut store (Ok (held.Empty file)) = ⊥
  IsShut store (Err e) = IsLeft store (Err e.0) e.1

  -- no desk was opened in a file with these bytes, for this cause; or one was, and nothing done with its store but to close the files; or the
  -- file is empty, and held
  pub data EndsHolding (bytes : Image) : Result (HeldFile D g) (OpenFault × Left D g) → Type 0 where
    unheld : (e : OpenFault × Left D g) → IsUnopened bytes e.0 e.1 → EndsHolding bytes (Err e)
    shut :
        (store : Store (FileStore D g)) (how : Result (HeldFile D g) (OpenFault × Left D g)) → OpensFiles bytes store → OpensKnown bytes store
        → IsShut store how → EndsHolding bytes how
    empty : (file : EmptyFile) → EndsHolding bytes (Ok (held.Empty file))

  -- ---- makings

  -- the files were not reached; or the engine refused them; or none could be made in them, which leaves what was there, or the new desk;
  -- or there was an object, and what was there stays. The cause is that of the engine's error, or of the store's making
  pub record FailsToBeMade (bytes : Image) (policy : Terms) (cause : OpenFault) (un : NotOpened (FileStore D g) D g) : Type 0 where
    pub unreached : un.conn ≡ None → un.refused ≡ None → IsOfStorage cause
    pub refused : IfSome un.refused (RefusesNoDatabase bytes cause)
    pub unmade : IfSome un.conn (FailsToMake policy 0 bytes cause)
    pub taken : IfSome un.conn (RefusesObjects bytes cause)
    pub by_engine : IfSome un.refused (RefusedBy bytes cause)
    pub by_store : IfSome un.conn (FailedToMakeOver policy 0 bytes cause)

  -- no desk was made
  abbrev pub IsUnmade : Image → Terms → OpenFault → Left D g → Type 0
  IsUnmade bytes policy cause rest.Untouched = IsUntouched cause
  IsUnmade bytes policy cause (rest.Unopened un) = FailsToBeMade bytes policy cause un
  IsUnmade bytes policy cause _ = ⊥

  -- no desk was made in files with these bytes; or one was, where there was no object, and its files closed, or could not be
  pub data EndsMaking (bytes : Image) (policy : Terms) (how : Result Unit OpenFault) (left : Left D g) : Type 0 where
    unmade : (cause : OpenFault) → how ≡ Err cause → IsUnmade bytes policy cause left → EndsMaking bytes policy how left
    made : (store : Store (FileStore D g)) → MakesFiles policy 0 store → FoundNothing bytes store → IsLeft store how left
        → EndsMaking bytes policy how left

-- ---- tasks

-- what is done with a store over a connection
abbrev pub OverStore : {F S : Type 0} → Doing F → Ghosts S → Store S → Store S → Result ℕ F → Type 0
OverStore does g = does _ _ _ (store_sight g) (λ changes old new why. Failed g changes old.conn new.conn why) (store_sight g)

-- how a task ends whose end was this, by how the closing of its files ended, which is told where the task ended well
pub record IsTold {F : Type 0} (Becomes : DeskFault → F → Type 0) (outcome : Result ℕ F) (closing : Result Unit OpenFault) (how : Result ℕ F) : Type 0 where
  pub closed : outcome ≡ Ok 0 → IfOk closing (λ _. how ≡ Ok 0)
  pub unclosed : outcome ≡ Ok 0 → IfErr closing (λ cause. IsErrAnd how (Becomes (open_fault cause)))
  pub otherwise : outcome ≢ Ok 0 → how ≡ outcome

module _ {D : Type 0} (g : disk.Ghosts D) where
  -- the desk of files with these bytes was opened, and the task done with its store, which ended so
  pub record IsDoneOver {F : Type 0} (bytes : Image) (does : Doing F) (how : Result ℕ F) : Type 0 where
    pub opened : Store (FileStore D g)
    pub ended : Store (FileStore D g)
    pub opens : OpensFiles bytes opened
    pub shows : OpensKnown bytes opened
    pub did : OverStore does (over_files {g = g}) opened ended how

module _ {D : Type 0} {g : disk.Ghosts D} where
  -- no desk was opened, and nothing written; or the task was done, and nothing with its store behind it but to close the files
  pub data EndsOver {F : Type 0} (Becomes : DeskFault → F → Type 0) (bytes : Image) (deed : Deed F) (was is : Option (List ℕ)) (how : Result ℕ F)
      (left : Left D g) : Type 0 where
    unopened :
        (cause : OpenFault) → IsErrAnd how (Becomes (open_fault cause)) → IsUnopened bytes cause left → is ≡ was → EndsOver Becomes bytes deed was is how left
    done :
        (outcome : Result ℕ F) (over : IsDoneOver g bytes (deed was is) outcome) (closing : Result Unit OpenFault) → IsLeft over.ended closing left
        → IsTold Becomes outcome closing how → EndsOver Becomes bytes deed was is how left

-- ---- tasks in memory

-- a store in memory has a new desk of these terms
abbrev pub IsNew : Terms → Store MemStore → Type 0
IsNew policy store = (store_sight over_memory).is_honest store → Keeps (store_sight over_memory) store (picture (first_history policy 0))

-- a desk was made in memory, and the task done with its store, which ended so
pub record IsDoneInMemory {F : Type 0} (policy : Terms) (does : Doing F) (how : Result ℕ F) : Type 0 where
  pub made : Store MemStore
  pub ended : Store MemStore
  pub new : IsNew policy made
  pub did : OverStore does over_memory made ended how

-- no desk was made, and nothing written; or the task ended so
pub data EndsInMemory {F : Type 0} (Becomes : DeskFault → F → Type 0) (policy : Terms) (deed : Deed F) (was is : Option (List ℕ)) (how : Result ℕ F)
    : Type 0 where
  unmade_in_memory : (cause : OpenFault) → IsErrAnd how (Becomes (open_fault cause)) → is ≡ was → EndsInMemory Becomes policy deed was is how
  done_in_memory : IsDoneInMemory policy (deed was is) how → EndsInMemory Becomes policy deed was is how
