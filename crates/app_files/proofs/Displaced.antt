-- A store that was opened, and is given only where its path leads to its file still.
use Rattle.std.proofs.Common.{◌≡◌, Result, Ok, Err, inr, subst, sym}
use Rattle.std.specs.Prelude.{IfErr, IfOk}
use Rattle.sqlite.specs.Recovery.{Image}
use Rattle.sqlite_disk.specs.declared.Disk as disk
use Rattle.sqlite_store.specs.declared.store.FileStore.{FileStore}
use Rattle.desk_files.specs.Opening.{OpensFiles, OpensKnown}
use Rattle.desk_store.specs.declared.{open_fault.OpenFault.OpenFault, store.Store.Store}
use Rattle.app_files.specs.{Endings.IsDisplaced, Endings.IsUnopened, declared.left.Left.Left}

-- what is so of a store is so of the one that is given
pub of_same : {A E : Type 0} (P : A → Type 0) (result : Result A E) (store : A) → IfOk result (λ given. given ≡ store) → P store → IfOk result P
of_same P (Ok given) store same it = subst P (sym same) it
of_same P (Err e) store same it = same

module _ {D : Type 0} {g : disk.Ghosts D} (bytes : Image) (store : Store (FileStore D g)) where
  -- one that is not given was opened, and closed
  pub of_displaced : (result : Result (Store (FileStore D g)) (OpenFault × Left D g)) → IfErr result (λ e. IsDisplaced store e.0 e.1)
      → OpensFiles bytes store → OpensKnown bytes store → IfErr result (λ e. IsUnopened bytes e.0 e.1)
  of_displaced (Ok given) displaced opens shows = displaced
  of_displaced (Err e) displaced opens shows = inr (record { store = store; opens = opens; shows = shows; displaced = displaced })
