-- How the orders of the command line end.
use Rattle.std.specs.Prelude.{◌≡◌, ◌≢◌, ◌⊎◌, ℕ, Bool, List, codes, Option, Some, None, Result, Ok, Err, true, false, string_bytes}
use Rattle.std.specs.Io.KnownBytes.{Appends}
use Rattle.sqlite.specs.Recovery.{Image}
use Rattle.sqlite_disk.specs.declared.Disk as disk
use Rattle.app_words.specs.{declared.command.AuthorizationListing.AuthorizationListing, declared.command.OrderListing.OrderListing}
use Rattle.app_words.specs.{declared.command.Command.Command, declared.command.Report.Report, declared.command.Serving.Serving, declared.command.Syncs.Syncs}
use Rattle.app_words.specs.{declared.command.Revocation.Revocation, declared.fault.WordsFault.WordsFault}
use Rattle.app_words.specs.declared.command.Report.TheVariants as report
use Rattle.app_words.specs.declared.command.Command.TheVariants as command
use Rattle.desk_http.specs.declared.serve_fault.ServeFault.TheVariants as servefault
use Rattle.app_words.specs.declared.command.Syncs.TheVariants as syncs
use Rattle.app_words.specs.declared.fault.WordsFault.TheVariants as wordsfault
use Rattle.app_tasks.specs.Filters.{AreRight, AsksForAuthorizations, AsksForOrders, StandsForName}
use Rattle.app_tasks.specs.Deeds.{AnswersReader, ChecksStatuses, ListsRows, RevokesTarget, ServesClients, TellsAbout, TellsPage, form_of}
use Rattle.app_tasks.specs.{Asked.RevokesServed, Looking.LooksServed, declared.filters.Unasked.Unasked, declared.fault.Fault.Fault, Faults.IsOfLog}
use Rattle.app_tasks.specs.{Faults.IsOfDesk, GivenTerms.terms_of, Doing.Deed, declared.copies.CopyFault.CopyFault}
use Rattle.app_tasks.specs.declared.filters.Unasked.TheVariants as unasked
use Rattle.app_tasks.specs.declared.fault.Fault.TheVariants as fault
use Rattle.desk_model.specs.Terms.{Terms, are_terms}
use Rattle.desk_store.specs.declared.open_fault.OpenFault.{OpenFault}
use Rattle.desk.specs.declared.fault.DeskFault.{DeskFault}
use Rattle.desk.specs.declared.fault.DeskFault.TheVariants as deskfault
use Rattle.app_files.specs.{declared.left.Left.Left, Endings.EndsInMemory, Endings.EndsMaking, Endings.EndsOver, Faults.open_fault}
use Rattle.app_tasks.specs.declared.copies.CopyFault.TheVariants as copyfault
use Rattle.app_files.specs.declared.left.Left.TheVariants as rest
use Rattle.app_reports.specs.Listed.{accounts_roster, authorizations_roster, orders_roster}
use Rattle.app_reports.specs.{declared.asked.AuthorizationFilter.AuthorizationFilter, declared.beside.Beside.Beside, declared.asked.OrderFilter.OrderFilter}
use Rattle.app_reports.specs.declared.form.Form.TheVariants as form

-- the terms of a desk in memory
abbrev pub terms_in_memory : Terms
terms_in_memory = record { base = codes "https://ca.example"; nonce_life = 3600; order_life = 604800; authz_life = 2592000 }

-- how often a commit syncs that a command makes: as its word says, or twice
abbrev pub syncs_of : Command → Syncs
syncs_of (command.Serve file serving) = file.syncs
syncs_of (command.Batch (Some file)) = file.syncs
syncs_of _ = syncs.Twice

-- whether that supposes of each byte which was written and not synced that it is the old or the new one
abbrev pub supposes : Syncs → Bool
supposes syncs.Once = true
supposes syncs.Twice = false

-- how a making is told: where a desk was made, what says so may still fail to be written
abbrev pub IsToldMade : Result Unit OpenFault → Result ℕ Fault → Type 0
IsToldMade (Ok made) how = (how ≡ Ok 0) ⊎ (how ≡ Err fault.Output)
IsToldMade (Err cause) how = how ≡ Err (fault.Desk (open_fault cause))

-- how a copy is told: it is made where a check of the desk ended by 0, and there alone; what says so may still fail to be written
pub record IsToldCopied (checked how : Result ℕ Fault) : Type 0 where
  pub copied : checked ≡ Ok 0 → (how ≡ Ok 0) ⊎ (((why : CopyFault) × (how ≡ Err (fault.Copy why))) ⊎ (how ≡ Err fault.Output))
  pub otherwise : checked ≢ Ok 0 → how ≡ checked

-- why no file is opened for a copy: something stands at its path, or that is the name of what stands beside another file
abbrev pub IsOfCopyPath : CopyFault → Type 0
IsOfCopyPath why = (why ≡ copyfault.Taken) ⊎ (why ≡ copyfault.Beside)

-- a file whose place a copy is to take could not be held, by the fault of its desk, or is the copy
abbrev pub IsOfPlace : Fault → Type 0
IsOfPlace why = ((cause : OpenFault) × (is_unreached : Bool) × (why ≡ fault.Place (open_fault cause) is_unreached)) ⊎ (why ≡ fault.Copy copyfault.Same)

module _ {D : Type 0} {g : disk.Ghosts D} where
  -- no file was opened, and nothing written
  abbrev pub IsIdle : (was is : Option (List ℕ)) → Left D g → Type 0
  IsIdle was is left = (is ≡ was) × (left ≡ rest.Untouched)

module _ {D : Type 0} (g : disk.Ghosts D) (image : Image) where
  -- a task over files with these bytes ends so, and leaves these
  abbrev pub EndsOverFiles : Deed Fault → (was is : Option (List ℕ)) → Result ℕ Fault → Left D g → Type 0
  EndsOverFiles deed was is how left = EndsOver IsOfDesk image deed was is how left

  -- a desk of these terms was made in such files, or was not
  pub record Makes (policy : Terms) (how : Result ℕ Fault) (left : Left D g) : Type 0 where
    pub making : Result Unit OpenFault
    pub ends : EndsMaking image policy making left
    pub told : IsToldMade making how

  -- how a making ends: by 2 where the terms break a limit, and there alone
  abbrev pub EndsMake : Terms → (was is : Option (List ℕ)) → Result ℕ Fault → Left D g → Type 0
  EndsMake policy was is how left =
      ((are_terms policy ≡ false) × (how ≡ Ok 2) × IsIdle was is left)
      ⊎ (((are_terms policy ≡ true) × Makes policy how left) ⊎ ((how ≡ Err (fault.Desk deskfault.Memory)) × IsIdle was is left))

  -- the size of the log could not be told, for memory or its file system; or what is known of the desk was
  abbrev pub EndsAbout : (was is : Option (List ℕ)) → Result ℕ Fault → Left D g → Type 0
  EndsAbout was is how left =
      ((why : DeskFault) × IsOfLog why × (how ≡ Err (fault.Desk why)) × IsIdle was is left) ⊎ ((b : Beside) × EndsOverFiles (TellsAbout b) was is how left)

  -- the machine told no moment; or the target was revoked at one
  abbrev pub EndsRevoke : Revocation → (was is : Option (List ℕ)) → Result ℕ Fault → Left D g → Type 0
  EndsRevoke what was is how left =
      ((how ≡ Err (fault.Serve servefault.Clock)) × IsIdle was is left) ⊎ ((at : ℕ) × EndsOverFiles (RevokesTarget what at) was is how left)

  -- connections were served, unless the desk's clock is too far ahead of a moment of the machine, where it told one
  abbrev pub EndsServe : Serving → (was is : Option (List ℕ)) → Result ℕ Fault → Left D g → Type 0
  EndsServe s was is how left = (now : Option ℕ) × EndsOverFiles (ServesClients s now) was is how left

  -- how a list ends whose words ask for nothing: by 2, or since there was no memory for them
  abbrev pub EndsUnasked : Unasked → (was is : Option (List ℕ)) → Result ℕ Fault → Left D g → Type 0
  EndsUnasked (unasked.Wrong why) was is how left = (how ≡ Ok 2) × IsIdle was is left
  EndsUnasked unasked.Memory was is how left = (how ≡ Err (fault.Desk deskfault.Memory)) × IsIdle was is left

  -- the orders are listed that are asked for
  pub record ListsOrders (listing : OrderListing) (was is : Option (List ℕ)) (how : Result ℕ Fault) (left : Left D g) : Type 0 where
    pub filter : OrderFilter
    pub asks : AsksForOrders listing filter
    pub ends : EndsOverFiles (ListsRows (orders_roster filter (form_of listing.json))) was is how left

  -- the authorizations are
  pub record ListsAuthorizations (listing : AuthorizationListing) (was is : Option (List ℕ)) (how : Result ℕ Fault) (left : Left D g) : Type 0 where
    pub filter : AuthorizationFilter
    pub asks : AsksForAuthorizations listing filter
    pub ends : EndsOverFiles (ListsRows (authorizations_roster filter (form_of listing.json))) was is how left

  -- how a list ends: by 2 where its words are wrong, and there alone; or there is no memory for them
  abbrev pub EndsList : (Right Lists : Type 0) → (was is : Option (List ℕ)) → Result ℕ Fault → Left D g → Type 0
  EndsList Right Lists was is how left =
      ((Right → ⊥) × (how ≡ Ok 2) × IsIdle was is left) ⊎ (Lists ⊎ ((how ≡ Err (fault.Desk deskfault.Memory)) × IsIdle was is left))

  -- the desk of the files was checked, and its statuses listed; where that ended by 0 the files were closed, and copied while they were held
  pub record CopiesChecked (was is : Option (List ℕ)) (how : Result ℕ Fault) (left : Left D g) : Type 0 where
    pub checked : Result ℕ Fault
    pub written : Option (List ℕ)
    pub ends : EndsOverFiles (ChecksStatuses form.Text) was written checked left
    pub told : IsToldCopied checked how
    pub silent : checked ≢ Ok 0 → is ≡ written

  -- something stood where the copy was to be made, or a log beside, or the path was of what stands beside another file, and no file was opened;
  -- or the desk was checked first
  abbrev pub EndsBackUp : (was is : Option (List ℕ)) → Result ℕ Fault → Left D g → Type 0
  EndsBackUp was is how left =
      ((why : CopyFault) × IsOfCopyPath why × (how ≡ Err (fault.Copy why)) × IsIdle was is left) ⊎ CopiesChecked was is how left

  -- the file whose place a copy is to take could not be held, or is the copy, and that was not opened; or the copy was checked first
  abbrev pub EndsRestore : (was is : Option (List ℕ)) → Result ℕ Fault → Left D g → Type 0
  EndsRestore was is how left = ((why : Fault) × IsOfPlace why × (how ≡ Err why) × IsIdle was is left) ⊎ CopiesChecked was is how left

  -- the desk that is served did not give its files, and no file was opened; or what it gave was checked first
  abbrev pub EndsBackUpServed : (was is : Option (List ℕ)) → Result ℕ Fault → Left D g → Type 0
  EndsBackUpServed was is how left = ((why : Fault) × (how ≡ Err why) × IsIdle was is left) ⊎ CopiesChecked was is how left

  -- how a report on the desk of the files ends
  abbrev pub EndsReport : Report → (was is : Option (List ℕ)) → Result ℕ Fault → Left D g → Type 0
  EndsReport report.About was is how left = EndsAbout was is how left
  EndsReport report.Page was is how left = EndsOverFiles TellsPage was is how left
  EndsReport (report.Orders listing) was is how left = EndsList (AreRight listing) (ListsOrders listing was is how left) was is how left
  EndsReport (report.Accounts json) was is how left = EndsOverFiles (ListsRows (accounts_roster (form_of json))) was is how left
  EndsReport (report.Authorizations listing) was is how left =
      EndsList (StandsForName listing.name) (ListsAuthorizations listing was is how left) was is how left
  EndsReport (report.Check json) was is how left = EndsOverFiles (ChecksStatuses (form_of json)) was is how left

  -- how a command over files with these bytes ends, and what it leaves; its reader has these bytes, and its writer was given these and has
  -- these in the end, where that is known
  abbrev pub Ends : (bytes was is : Option (List ℕ)) → Command → Result ℕ Fault → Left D g → Type 0
  Ends bytes was is (command.Make file terms) how left = EndsMake (terms_of terms) was is how left
  Ends bytes was is (command.Serve file serving) how left = EndsServe serving was is how left
  Ends bytes was is (command.Report file report) how left = EndsReport report was is how left
  Ends bytes was is (command.Look place report) how left = LooksServed report was is how × (left ≡ rest.Untouched)
  Ends bytes was is (command.BackUp file to) how left = EndsBackUp was is how left
  Ends bytes was is (command.BackUpServed place to) how left = EndsBackUpServed was is how left
  Ends bytes was is (command.Restore copy file) how left = EndsRestore was is how left
  Ends bytes was is (command.Revoke file target) how left = EndsRevoke target was is how left
  Ends bytes was is (command.RevokeServed place target) how left = RevokesServed target was is how × (left ≡ rest.Untouched)
  Ends bytes was is (command.Batch (Some file)) how left = EndsOverFiles (AnswersReader bytes) was is how left
  Ends bytes was is (command.Batch None) how left =
      EndsInMemory IsOfDesk terms_in_memory (AnswersReader bytes) was is how × (left ≡ rest.Untouched)

-- the exit status, which after a fault is 1
abbrev pub status_of : Result ℕ Fault → ℕ
status_of (Ok status) = status
status_of (Err why) = 1

module _ {D : Type 0} (g : disk.Ghosts D) (image : Image) where
  -- a command ends by this status
  abbrev pub EndsBy : (bytes was is : Option (List ℕ)) → Command → ℕ → Left D g → Type 0
  EndsBy bytes was is o status left = (how : Result ℕ Fault) × Ends g image bytes was is o how left × (status ≡ status_of how)

  -- and leaves something of its files, which is given up
  abbrev pub EndsSo : (bytes was is : Option (List ℕ)) → Command → ℕ → Type 0
  EndsSo bytes was is o status = (left : Left D g) × EndsBy bytes was is o status left

-- by how often commits sync
abbrev pub BySyncs : (once twice : Type 0) → Syncs → Type 0
BySyncs once twice syncs.Once = once
BySyncs once twice syncs.Twice = twice

-- what is said where words ask for no command: the help that they ask for, which may fail to be written; what is wrong with them; or that
-- there is no memory for them. The exit status is 0 where the help is written, and there alone
abbrev pub IsToldWords : WordsFault → (was is : Option (List ℕ)) → ℕ → Type 0
IsToldWords (wordsfault.Help text) was is status = ((status ≡ 0) × Appends was is (string_bytes text)) ⊎ (status ≡ 1)
IsToldWords (wordsfault.Wrong text) was is status = (status ≡ 2) × (is ≡ was)
IsToldWords wordsfault.Memory was is status = (status ≡ 1) × (is ≡ was)
