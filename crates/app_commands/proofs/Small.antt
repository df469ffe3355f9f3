-- No word ends with a status above 3.
use Rattle.std.proofs.Common.{◌≡◌, ◌≤◌, ℕ, List, Bool, true, false, Option, None, Some, Result, Ok, Err, IsErrAnd, zero, suc, arith, inl, inr, refl, subst, sym}
use Rattle.std.specs.Prelude.{if◌then◌else◌}
use Rattle.sqlite.specs.Recovery.{Image}
use Rattle.sqlite_disk.specs.declared.Disk as disk
use Rattle.app_words.specs.declared.command.{Command.Command, Report.Report, Revocation.Revocation, Serving.Serving}
use Rattle.app_words.specs.declared.fault.WordsFault.{WordsFault}
use Rattle.app_words.specs.declared.command.Report.TheVariants as report
use Rattle.app_words.specs.declared.command.Command.TheVariants as command
use Rattle.app_words.specs.declared.fault.WordsFault.TheVariants as wordsfault
use Rattle.app_tasks.specs.Deeds.{AnswersReader, ChecksStatuses, ListsRows, RevokesTarget, ServesClients, TellsAbout, TellsPage, AnswersLines, ByDesk, IsTold}
use Rattle.app_tasks.specs.Deeds.{Revokes, Serves, ServesByMoment, ServesUnlessAhead, adopted, clocked, clockless, served, unadopted, unserved, IsUntaken}
use Rattle.app_tasks.specs.Deeds.{how_checked, how_listed, how_served, form_of}
use Rattle.app_tasks.specs.{Looking.LooksServed, Looking.shown, Looking.shown_status, Looking.unasked, Looking.unwritten, Asked.IsSaid, Asked.RevokesServed}
use Rattle.app_tasks.specs.{Asked.refused, Asked.revoked, Asked.unheard, Faults.IsOfDesk, declared.fault.Fault.Fault, GivenTerms.terms_of, Doing.Deed}
use Rattle.app_tasks.specs.Looking as looked
use Rattle.app_commands.specs.Statuses.{CopiesChecked, EndsBackUp, EndsBackUpServed, EndsReport, EndsRestore, IsToldCopied, IsToldWords}
use Rattle.app_commands.specs.Statuses.{Ends, EndsBy, EndsList, EndsMake, EndsOverFiles, IsToldMade, status_of, terms_in_memory}
use Rattle.desk_http.specs.declared.serve_fault.ServeFault.{ServeFault}
use Rattle.desk.specs.{State.DeskState, declared.fault.DeskFault.DeskFault}
use Rattle.desk_model.specs.{Terms.Terms, declared.refusal.Refusal.Refusal}
use Rattle.store_api.specs.{Sight.Sight, Storing.Causes}
use Rattle.desk_store.specs.declared.open_fault.OpenFault.{OpenFault}
use Rattle.app_files.specs.{declared.left.Left.Left, Endings.EndsInMemory, Endings.unopened}
use Rattle.app_files.specs.Endings as ending
use Rattle.app_reports.specs.declared.{fault.ReportFault.ReportFault, beside.Beside.Beside, faults.Checked.Checked, form.Form.Form}
use Rattle.app_reports.specs.Listed.{Roster, accounts_roster, authorizations_roster, orders_roster}
use Rattle.app_reports.specs.declared.form.Form.TheVariants as form

-- the exit status is 3 at most
abbrev pub IsSmall : Result ℕ Fault → Type 0
IsSmall how = status_of how ≤ 3

-- as that of this end
small_as : (how is : Result ℕ Fault) → how ≡ is → IsSmall is → IsSmall how
small_as how is same small = subst IsSmall (sym same) small

-- so is each end of a task
abbrev AreSmall : Deed Fault → Type 1
AreSmall deed =
    (was is : Option (List ℕ)) (S C D : Type 0) (v : Sight S C) (causes : Causes S) (rows : Sight S D) (old new : S) (how : Result ℕ Fault)
    → deed was is S C D v causes rows old new how → IsSmall how

-- an end by 0 to 3
small_status : (n : ℕ) → n ≤ 3 → IsSmall (Ok n)
small_status n most = most

-- a fault
small_fault : (how : Result ℕ Fault) (P : Fault → Type 0) → IsErrAnd how P → IsSmall how
small_fault (Ok status) P it = absurd it
small_fault (Err why) P it = omega arith

-- lists of orders
small_listed : (listed : Result Unit ReportFault) → IsSmall (how_listed listed)
small_listed (Ok listed) = small_status 0 (omega arith)
small_listed (Err why) = omega arith

-- lists of wrong statuses
small_found : (found : Bool) → IsSmall (Ok (if found then 3 else 0))
small_found true = small_status 3 (omega arith)
small_found false = small_status 0 (omega arith)

small_checked : (checked : Result Checked ReportFault) → IsSmall (how_checked checked)
small_checked (Ok checked) = small_found checked.found
small_checked (Err why) = omega arith

-- serving
small_served : (ended : Result Unit ServeFault) → IsSmall (how_served ended)
small_served (Ok all) = small_status 0 (omega arith)
small_served (Err why) = omega arith

-- revocations
small_told : (answer : Result (Option Refusal) DeskFault) (how : Result ℕ Fault) → IsTold answer how → IsSmall how
small_told (Ok None) how (inl is) = small_as how _ is (small_status 0 (omega arith))
small_told (Ok None) how (inr is) = small_as how _ is (omega arith)
small_told (Ok (Some refusal)) how is = small_as how _ is (omega arith)
small_told (Err why) how is = small_as how _ is (omega arith)

-- revocations by a desk that is served
small_said : (what : Revocation) (was is : Option (List ℕ)) (how : Result ℕ Fault) → IsSaid what was is how → IsSmall how
small_said what was is how (inl it) = small_as how _ it.0 (small_status 0 (omega arith))
small_said what was is how (inr it) = small_as how _ it (omega arith)

small_asked : (what : Revocation) (was is : Option (List ℕ)) (how : Result ℕ Fault) → RevokesServed what was is how → IsSmall how
small_asked what was is how (unheard (inl it) same) = small_as how _ it.1 (omega arith)
small_asked what was is how (unheard (inr it) same) = small_as how _ it (omega arith)
small_asked what was is how (refused reply refusal says it same) = small_as how _ it (omega arith)
small_asked what was is how (revoked reply says it) = small_said what was is how it

-- reports by a desk that is served
small_found_there : (is_nothing : Bool) → IsSmall (Ok (if is_nothing then 0 else 3))
small_found_there true = small_status 0 (omega arith)
small_found_there false = small_status 3 (omega arith)

small_shown : (r : Report) (is_nothing : Bool) → IsSmall (Ok (shown_status r is_nothing))
small_shown report.About is_nothing = small_status 0 (omega arith)
small_shown report.Page is_nothing = small_status 0 (omega arith)
small_shown (report.Orders listing) is_nothing = small_status 0 (omega arith)
small_shown (report.Accounts json) is_nothing = small_status 0 (omega arith)
small_shown (report.Authorizations listing) is_nothing = small_status 0 (omega arith)
small_shown (report.Check json) is_nothing = small_found_there is_nothing

small_looked : (r : Report) (was is : Option (List ℕ)) (how : Result ℕ Fault) → LooksServed r was is how → IsSmall how
small_looked r was is how (inl it) = small_as how _ it.1 (small_status 2 (omega arith))
small_looked r was is how (inr (unasked ends same)) = small_as how _ ends (omega arith)
small_looked r was is how (inr (looked.unheard why part ends written)) = small_as how _ ends (omega arith)
small_looked r was is how (inr (unwritten ends)) = small_as how _ ends (omega arith)
small_looked r was is how (inr (shown whole is_nothing written is_text ends)) = small_as how _ ends (small_shown r is_nothing)

-- what is done by a desk
small_by : {S C : Type 0} (v : Sight S C) (was is : Option (List ℕ)) (Does : DeskState S → DeskState S → Result ℕ Fault → Type 0)
    → ((desk ended : DeskState S) (how : Result ℕ Fault) → Does desk ended how → IsSmall how)
    → (old new : S) (how : Result ℕ Fault) → ByDesk v was is Does old new how → IsSmall how
small_by v was is Does small old new how (unadopted why fails same) = omega arith
small_by v was is Does small old new how (adopted end desk ended adopts does back) = small desk ended end does

-- each task
small_lists : {X : Type 0} (r : Roster X) → AreSmall (ListsRows r)
small_lists r was is S C D v causes rows old new how it = small_as how _ it.ends (small_listed it.listed)

small_tells : (b : Beside) → AreSmall (TellsAbout b)
small_tells b was is S C D v causes rows old new how it = small_as how _ it.ends (small_listed it.told)

small_page : AreSmall TellsPage
small_page was is S C D v causes rows old new how it = small_as how _ it.ends (small_listed it.told)

small_checks : (f : Form) → AreSmall (ChecksStatuses f)
small_checks f was is S C D v causes rows old new how it = small_as how _ it.ends (small_checked it.checked)

small_revoked : {S C : Type 0} (v : Sight S C) (what : Revocation) (at : ℕ) (desk ended : DeskState S) (how : Result ℕ Fault)
    → Revokes v what at desk ended how → IsSmall how
small_revoked v what at desk ended how it = small_told it.answer how it.told

small_revokes : (what : Revocation) (at : ℕ) → AreSmall (RevokesTarget what at)
small_revokes what at was is S C D v causes rows old new how it = small_by v was is (Revokes v what at) (small_revoked v what at) old new how it

small_line : {S C : Type 0} (v : Sight S C) (bytes was is : Option (List ℕ)) (desk ended : DeskState S) (how : Result ℕ Fault)
    → AnswersLines v bytes was is desk ended how → IsSmall how
small_line v bytes was is desk ended how it =
    elim it.answers [ inl all ↦ small_as how _ all.0 (small_status 0 (omega arith)) | inr first ↦ small_as how _ first.0 (small_status 1 (omega arith)) ]

small_answers : (bytes : Option (List ℕ)) → AreSmall (AnswersReader bytes)
small_answers bytes was is S C D v causes rows old new how it =
    small_by v was is (AnswersLines v bytes was is) (small_line v bytes was is) old new how it

small_client : {S C : Type 0} (v : Sight S C) (causes : Causes S) (s : Serving) (clock : ℕ) (desk ended : DeskState S) (how : Result ℕ Fault)
    → Serves v causes s clock desk ended how → IsSmall how
small_client v causes s clock desk ended how (unserved same (inl it)) = small_fault how (IsUntaken s.listening) it
small_client v causes s clock desk ended how (unserved same (inr (inl it))) = small_as how _ it (omega arith)
small_client v causes s clock desk ended how (unserved same (inr (inr it))) = small_as how _ it (omega arith)
small_client v causes s clock desk ended how (served by bound seen all it) = small_as how _ it (small_served by)

small_unless_ahead : {S C : Type 0} (v : Sight S C) (causes : Causes S) (s : Serving) (now : Option ℕ) (clock : ℕ) (desk ended : DeskState S)
    (how : Result ℕ Fault) → ServesUnlessAhead v causes s now clock desk ended how → IsSmall how
small_unless_ahead v causes s now clock desk ended how (inl it) = small_as how _ it.2 (omega arith)
small_unless_ahead v causes s now clock desk ended how (inr it) = small_client v causes s clock desk ended how it.1

small_start : {S C : Type 0} (v : Sight S C) (causes : Causes S) (s : Serving) (now : Option ℕ) (clock : ℕ) (desk ended : DeskState S)
    (how : Result ℕ Fault) → ServesByMoment v causes s now clock desk ended how → IsSmall how
small_start v causes s now clock desk ended how (inl it) = small_as how _ it.2 (omega arith)
small_start v causes s now clock desk ended how (inr it) = small_unless_ahead v causes s now clock desk ended how it.1

small_serves : (s : Serving) (now : Option ℕ) → AreSmall (ServesClients s now)
small_serves s now was is S C D v causes rows old new how (clockless why fails same) = omega arith
small_serves s now was is S C D v causes rows old new how (clocked end clock mid stands found it) =
    small_by v was is (ServesByMoment v causes s now clock) (small_start v causes s now clock) mid new end it

-- a task by how the closing of its files ended
small_end : (outcome : Result ℕ Fault) (closing : Result Unit OpenFault) (how : Result ℕ Fault) → IsSmall outcome
    → ending.IsTold IsOfDesk outcome closing how → IsSmall how
small_end (Ok zero) (Ok u) how small told = small_as how _ (told.closed refl) (small_status 0 (omega arith))
small_end (Ok zero) (Err cause) how small told = small_fault how _ (told.unclosed refl)
small_end (Ok (suc n)) closing how small told = small_as how _ (told.otherwise (λ e. absurd (cc e))) small
small_end (Err why) closing how small told = small_as how _ (told.otherwise (λ e. absurd (cc e))) small

-- makings
small_making : (making : Result Unit OpenFault) (how : Result ℕ Fault) → IsToldMade making how → IsSmall how
small_making (Ok made) how (inl is) = small_as how _ is (small_status 0 (omega arith))
small_making (Ok made) how (inr is) = small_as how _ is (omega arith)
small_making (Err cause) how is = small_as how _ is (omega arith)

-- what is told of a copy
small_copied : (checked how : Result ℕ Fault) → IsSmall checked → IsToldCopied checked how → IsSmall how
small_copied (Ok zero) how small told =
    elim (told.copied refl) [
      | inl is ↦ small_as how _ is (small_status 0 (omega arith))
      | inr failed ↦
          elim failed [ inl is ↦ small_as how _ is.1 (omega arith) | inr is ↦ small_as how _ is (omega arith) ]
    ]
small_copied (Ok (suc n)) how small told = small_as how _ (told.otherwise (λ e. absurd (cc e))) small
small_copied (Err why) how small told = small_as how _ (told.otherwise (λ e. absurd (cc e))) small

-- what is said of words that ask for no command
pub small_words : (why : WordsFault) (was is : Option (List ℕ)) (status : ℕ) → IsToldWords why was is status → status ≤ 3
small_words (wordsfault.Help text) was is status (inl it) = subst (λ n. n ≤ 3) (sym it.0) (omega arith)
small_words (wordsfault.Help text) was is status (inr it) = subst (λ n. n ≤ 3) (sym it) (omega arith)
small_words (wordsfault.Wrong text) was is status it = subst (λ n. n ≤ 3) (sym it.0) (omega arith)
small_words wordsfault.Memory was is status it = subst (λ n. n ≤ 3) (sym it.0) (omega arith)

-- a task in memory
small_in_memory : (policy : Terms) (deed : Deed Fault) → AreSmall deed → (was is : Option (List ℕ)) (how : Result ℕ Fault)
    → EndsInMemory IsOfDesk policy deed was is how → IsSmall how
small_in_memory policy deed small was is how (ending.unmade_in_memory cause becomes same) = small_fault how _ becomes
small_in_memory policy deed small was is how (ending.done_in_memory it) = small _ _ _ _ _ _ _ _ it.made it.ended how it.did

module _ {D : Type 0} (g : disk.Ghosts D) (image : Image) where
  -- a task over files
  small_over : (deed : Deed Fault) → AreSmall deed → (was is : Option (List ℕ)) (how : Result ℕ Fault) (left : Left D g)
      → EndsOverFiles g image deed was is how left → IsSmall how
  small_over deed small was is how left (unopened cause becomes un same) = small_fault how _ becomes
  small_over deed small was is how left (ending.done outcome it closing closes told) =
      small_end outcome closing how (small _ _ _ _ _ _ _ _ it.opened it.ended outcome it.did) told

  -- makings, and lists whose words may be wrong
  small_make : (policy : Terms) (was is : Option (List ℕ)) (how : Result ℕ Fault) (left : Left D g) → EndsMake g image policy was is how left
      → IsSmall how
  small_make policy was is how left (inl it) = small_as how _ it.1 (small_status 2 (omega arith))
  small_make policy was is how left (inr (inl it)) = small_making it.1.making how it.1.told
  small_make policy was is how left (inr (inr it)) = small_as how _ it.0 (omega arith)

  small_list : (Right Lists : Type 0) (was is : Option (List ℕ)) (how : Result ℕ Fault) (left : Left D g) → (Lists → IsSmall how)
      → EndsList g image Right Lists was is how left → IsSmall how
  small_list Right Lists was is how left lists (inl it) = small_as how _ it.1 (small_status 2 (omega arith))
  small_list Right Lists was is how left lists (inr (inl it)) = lists it
  small_list Right Lists was is how left lists (inr (inr it)) = small_as how _ it.0 (omega arith)

  small_rows : {X : Type 0} (r : Roster X) (was is : Option (List ℕ)) (how : Result ℕ Fault) (left : Left D g)
      → EndsOverFiles g image (ListsRows r) was is how left → IsSmall how
  small_rows r was is how left it = small_over (ListsRows r) (small_lists r) was is how left it

  -- copies
  small_checked_copy : (was is : Option (List ℕ)) (how : Result ℕ Fault) (left : Left D g) → CopiesChecked g image was is how left → IsSmall how
  small_checked_copy was is how left it =
      small_copied it.checked how (small_over (ChecksStatuses form.Text) (small_checks form.Text) was it.written it.checked left it.ends) it.told

  small_back_up : (was is : Option (List ℕ)) (how : Result ℕ Fault) (left : Left D g) → EndsBackUp g image was is how left → IsSmall how
  small_back_up was is how left (inl it) = small_as how _ it.2 (omega arith)
  small_back_up was is how left (inr it) = small_checked_copy was is how left it

  small_back_up_served : (was is : Option (List ℕ)) (how : Result ℕ Fault) (left : Left D g) → EndsBackUpServed g image was is how left → IsSmall how
  small_back_up_served was is how left (inl it) = small_as how _ it.1 (omega arith)
  small_back_up_served was is how left (inr it) = small_checked_copy was is how left it

  -- copies that take the place of a desk
  small_restore : (was is : Option (List ℕ)) (how : Result ℕ Fault) (left : Left D g) → EndsRestore g image was is how left → IsSmall how
  small_restore was is how left (inl it) = small_as how _ it.2 (omega arith)
  small_restore was is how left (inr it) = small_checked_copy was is how left it

  -- each report
  small_report : (r : Report) (was is : Option (List ℕ)) (how : Result ℕ Fault) (left : Left D g) → EndsReport g image r was is how left → IsSmall how
  small_report report.About was is how left (inl it) = small_as how _ it.2 (omega arith)
  small_report report.About was is how left (inr it) = small_over (TellsAbout it.0) (small_tells it.0) was is how left it.1
  small_report report.Page was is how left it = small_over TellsPage small_page was is how left it
  small_report (report.Orders listing) was is how left it =
      small_list _ _ was is how left (λ lists. small_rows (orders_roster lists.filter (form_of listing.json)) was is how left lists.ends) it
  small_report (report.Accounts json) was is how left it = small_rows (accounts_roster (form_of json)) was is how left it
  small_report (report.Authorizations listing) was is how left it =
      small_list _ _ was is how left (λ lists. small_rows (authorizations_roster lists.filter (form_of listing.json)) was is how left lists.ends) it
  small_report (report.Check json) was is how left it = small_over (ChecksStatuses (form_of json)) (small_checks (form_of json)) was is how left it

  -- each command
  small_command : (bytes was is : Option (List ℕ)) (o : Command) (how : Result ℕ Fault) (left : Left D g) → Ends g image bytes was is o how left
      → IsSmall how
  small_command bytes was is (command.Make file terms) how left it = small_make (terms_of terms) was is how left it
  small_command bytes was is (command.Serve file serving) how left it =
      small_over (ServesClients serving it.0) (small_serves serving it.0) was is how left it.1
  small_command bytes was is (command.Report file report) how left it = small_report report was is how left it
  small_command bytes was is (command.Look place report) how left it = small_looked report was is how it.0
  small_command bytes was is (command.BackUp file to) how left it = small_back_up was is how left it
  small_command bytes was is (command.BackUpServed place to) how left it = small_back_up_served was is how left it
  small_command bytes was is (command.Restore copy file) how left it = small_restore was is how left it
  small_command bytes was is (command.Revoke file target) how left (inl it) = small_as how _ it.0 (omega arith)
  small_command bytes was is (command.Revoke file target) how left (inr it) =
      small_over (RevokesTarget target it.0) (small_revokes target it.0) was is how left it.1
  small_command bytes was is (command.RevokeServed port target) how left it = small_asked target was is how it.0
  small_command bytes was is (command.Batch (Some file)) how left it = small_over (AnswersReader bytes) (small_answers bytes) was is how left it
  small_command bytes was is (command.Batch None) how left it =
      small_in_memory terms_in_memory (AnswersReader bytes) (small_answers bytes) was is how it.0

  -- no exit status is above 3
  pub at_most_three : (bytes was is : Option (List ℕ)) (o : Command) (status : ℕ) (left : Left D g) → EndsBy g image bytes was is o status left
      → status ≤ 3
  at_most_three bytes was is o status left it = subst (λ n. n ≤ 3) (sym it.2) (small_command bytes was is o it.0 left it.1)
