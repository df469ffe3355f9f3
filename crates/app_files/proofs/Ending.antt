-- How a making ends, by what its steps say.
use Rattle.std.proofs.Common.{◌≡◌, ℕ, None, Result, Err, subst}
use Rattle.std.specs.Prelude.{IfSome}
use Rattle.sqlite.specs.Recovery.{Image}
use Rattle.sqlite_disk.specs.declared.Disk as disk
use Rattle.sqlite_store.specs.declared.store.FileStore.{FileStore}
use Rattle.desk_files.specs.Opening.{FailedToMakeOver, FailsToMake, FoundNothing, MakesFiles, RefusedBy, RefusesNoDatabase, RefusesObjects}
use Rattle.desk_files.specs.declared.opening.NotOpened.{NotOpened}
use Rattle.desk_model.specs.Terms.{Terms}
use Rattle.desk_store.specs.{Making.IsOfStorage, declared.open_fault.OpenFault.OpenFault, declared.store.Store.Store}
use Rattle.app_files.specs.{Endings.EndsMaking, Endings.IsLeft, Endings.made, Endings.unmade, declared.left.Left.Left}
use Rattle.app_files.specs.declared.left.Left.TheVariants as rest

module _ {D : Type 0} {g : disk.Ghosts D} (bytes : Image) (policy : Terms) (at : ℕ) where
  -- a desk that was made at moment 0, and closed or not
  pub is_made : (store : Store (FileStore D g)) (how : Result Unit OpenFault) (left : Left D g) → at ≡ 0 → MakesFiles policy at store
      → FoundNothing bytes store → IsLeft store how left → EndsMaking bytes policy how left
  is_made store how left is makes free closes = made store (subst (λ m. MakesFiles policy m store) is makes) free closes

  -- one that was not
  pub is_unmade : (un : NotOpened (FileStore D g) D g) → at ≡ 0 → (un.conn ≡ None → un.refused ≡ None → IsOfStorage un.fault)
      → IfSome un.refused (RefusesNoDatabase bytes un.fault) → IfSome un.conn (FailsToMake policy at bytes un.fault)
      → IfSome un.conn (RefusesObjects bytes un.fault) → IfSome un.refused (RefusedBy bytes un.fault)
      → IfSome un.conn (FailedToMakeOver policy at bytes un.fault) → (how : Result Unit OpenFault) → how ≡ Err un.fault
      → EndsMaking bytes policy how (rest.Unopened un)
  is_unmade un is unreached refused fails taken cause failed how same =
      unmade un.fault same (record {
        unreached = unreached;
        refused = refused;
        unmade = subst (λ m. IfSome un.conn (FailsToMake policy m bytes un.fault)) is fails;
        taken = taken;
        by_engine = cause;
        by_store = subst (λ m. IfSome un.conn (FailedToMakeOver policy m bytes un.fault)) is failed;
      })
