-- A copy that is told as made is one of a file that holds the desk.
use Rattle.std.proofs.Common.{◌≡◌, inl, inr, ℕ, zero, suc, List, [], Option, Result, Ok, Err, refl, subst, sym}
use Rattle.std.specs.Prelude.{OnOk}
use Rattle.sqlite.specs.{Files.image_of, Files.over_files, Recovery.Image, WalReads.AreClean}
use Rattle.sqlite_disk.specs.declared.Disk as disk
use Rattle.sqlite_disk.specs.declared.Files.{Files}
use Rattle.sqlite_store.specs.declared.store.FileStore.{FileStore}
use Rattle.app_tasks.specs.{Deeds.ChecksStatuses, Deeds.how_checked, Faults.IsOfDesk, declared.fault.Fault.Fault}
use Rattle.app_commands.specs.Statuses.{CopiesChecked, EndsBackUp, EndsOverFiles, EndsRestore, IsToldCopied}
use Rattle.desk_model.specs.{Entry.History, Tables.picture}
use Rattle.desk_files.specs.LeftFiles.{HoldDesk, LeftFiles, file_sight}
use Rattle.desk_store.specs.{Desks.store_sight, declared.open_fault.OpenFault.OpenFault, declared.store.Store.Store}
use Rattle.app_files.specs.{Endings.OverStore, declared.left.Left.Left}
use Rattle.app_files.specs.Endings.{IsClosed, IsDoneOver, IsLeft, IsTold, done, unopened}
use Rattle.app_files.specs.declared.left.Left.TheVariants as rest
use Rattle.app_reports.specs.declared.{fault.ReportFault.ReportFault, faults.Checked.Checked}
use Rattle.app_reports.specs.declared.form.Form.TheVariants as form
use Rattle.app_lives.specs.Left.{CopiesHoldDesk, StoresHoldDesk}

-- a check behind which a copy was made ended by 0
checked_well : (checked : Result ℕ Fault) → IsToldCopied checked (Ok 0) → checked ≡ Ok 0
checked_well (Ok zero) told = refl
checked_well (Ok (suc n)) told = sym (told.otherwise (λ e. absurd (cc e)))
checked_well (Err why) told = sym (told.otherwise (λ e. absurd (cc e)))

-- so did a task that is told to have
done_well : (outcome : Result ℕ Fault) (closing : Result Unit OpenFault) → IsTold IsOfDesk outcome closing (Ok 0) → outcome ≡ Ok 0
done_well (Ok zero) closing told = refl
done_well (Ok (suc n)) closing told = sym (told.otherwise (λ e. absurd (cc e)))
done_well (Err why) closing told = sym (told.otherwise (λ e. absurd (cc e)))

-- a check that ended by 0 read all that there is
read_well : (found : Result Checked ReportFault) (P : Type 0) → Ok 0 ≡ how_checked found → OnOk found P → P
read_well (Ok checked) P is it = it
read_well (Err why) P is it = absurd (cc is)

module _ {D : Type 0} (g : disk.Ghosts D) where
  -- what a copy is made of
  abbrev HoldsCopied : (image : Image) (F : History) (left : Left D g) → Type 0
  HoldsCopied image F left =
      (closed : Files D) × (left ≡ rest.Closed closed)
      × (AreClean g closed.log closed.db → HoldDesk (record (image_of g closed) { log = [] }) (picture F))

  -- a store of which files are left that were closed
  closed_well : (store : Store (FileStore D g)) (closing : Result Unit OpenFault) (left : Left D g) → IsLeft store closing left
      → IsTold IsOfDesk (Ok 0) closing (Ok 0) → (closed : Files D) × (left ≡ rest.Closed closed) × IsClosed store closed
  closed_well store (Ok u) (rest.Closed closed) it told = (closed, refl, it)
  closed_well store (Ok u) (rest.Unclosed last) it told = absurd it
  closed_well store (Ok u) (rest.Unopened un) it told = absurd it
  closed_well store (Ok u) rest.Untouched it told = absurd it
  closed_well store (Err cause) left it told = absurd (told.unclosed refl)

  module _ (image : Image) (was is : Option (List ℕ)) (F : History) (files : LeftFiles) (same : files.image ≡ image)
      (has : (file_sight g).has files (picture F)) where
    -- the files of a check that ended by 0, once they are closed
    of_closed : (over : IsDoneOver g image (ChecksStatuses form.Text was is) (Ok 0)) (closed : Files D) → IsClosed over.ended closed
        → AreClean g closed.log closed.db → HoldDesk (record (image_of g closed) { log = [] }) (picture F)
    of_closed over closed it clean =
        let v = store_sight (over_files {g = g}) in
        let honest = it.honest clean in
        let still = read_well over.did.checked _ over.did.ends over.did.reads.tables in
        let found = (over.opens (over.did.reads.honest honest) files same (picture F) has).tables.tables in
        (it.kept clean (picture F) (still honest (picture F) found).desk).now.alone

    of_check : (left : Left D g) → EndsOverFiles g image (ChecksStatuses form.Text) was is (Ok 0) left → HoldsCopied image F left
    of_check left (unopened cause becomes un silent) = absurd becomes
    of_check left (done outcome over closing closes told) =
        let well = done_well outcome closing told in
        let checked : IsDoneOver g image (ChecksStatuses form.Text was is) (Ok 0) =
        record {
          opened = over.opened;
          ended = over.ended;
          opens = over.opens;
          shows = over.shows;
          did = subst (λ how. OverStore (ChecksStatuses form.Text was is) (over_files {g = g}) over.opened over.ended how) well over.did;
        } in
        let it = closed_well over.ended closing left closes (subst (λ how. IsTold IsOfDesk how closing (Ok 0)) well told) in
        (it.0, it.1, of_closed checked it.0 it.2)

  -- a check behind which a copy was made
  of_copy : (image : Image) (was is : Option (List ℕ)) (left : Left D g) → CopiesChecked g image was is (Ok 0) left
      → (F : History) (files : LeftFiles) → files.image ≡ image → (file_sight g).has files (picture F) → HoldsCopied image F left
  of_copy image was is left it F files same has =
      of_check image was it.written F files same has left
      (subst (λ how. EndsOverFiles g image (ChecksStatuses form.Text) was it.written how left) (checked_well it.checked it.told) it.ends)

  pub copies_hold_desk : CopiesHoldDesk g (EndsBackUp g)
  copies_hold_desk image was is left (inl it) F files same has = absurd (let e = it.2 in cc e)
  copies_hold_desk image was is left (inr it) F files same has = of_copy image was is left it F files same has

  pub restored_hold_desk : CopiesHoldDesk g (EndsRestore g)
  restored_hold_desk image was is left (inl it) F files same has = absurd (let e = it.2 in cc e)
  restored_hold_desk image was is left (inr it) F files same has = of_copy image was is left it F files same has

  pub stores_hold_desk : StoresHoldDesk g
  stores_hold_desk bytes store opens honest F files same has left may =
      (opens honest files same (picture F) has).tables.left left.trees may
