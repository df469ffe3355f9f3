-- What the words of the program do with the store of a desk, and how that ends.
use Rattle.std.specs.Prelude.{if◌then◌else◌, ◌≡◌, ◌≢◌, ◌⊎◌, ◌↔◌, ℕ, List, [], Bool, true, false, Option, Some, None, Result, Ok, Err, IfOk, IsErrAnd, IsTrue, OnOk}
use Rattle.std.specs.Prelude.{nat_lt, unwrap_or}
use Rattle.std.specs.Io.KnownBytes.{Appends}
use Rattle.app_batch.specs.InTurn.{AnswersFirst, StopsBehind}
use Rattle.app_words.specs.declared.command.{Listening.Listening, Revocation.Revocation, Serving.Serving}
use Rattle.app_words.specs.declared.command.Listening.TheVariants as listening
use Rattle.app_words.specs.declared.command.Place.TheVariants as place
use Rattle.app_words.specs.declared.command.Revocation.TheVariants as revocation
use Rattle.app_tasks.specs.{Faults.report_fault, Showing.desk_shower, declared.fault.Fault.Fault, declared.sockets.SocketCause.SocketCause, Doing.Deed}
use Rattle.app_tasks.specs.declared.fault.Fault.TheVariants as fault
use Rattle.desk_http.specs.{InTurn.ServesConnections, Logged.LogEntry, declared.serve_fault.ServeFault.ServeFault}
use Rattle.desk_http.specs.declared.{moment_bound.MomentBound.MomentBound, overseeing.Watch.Watch}
use Rattle.desk_http.specs.declared.serve_fault.ServeFault.TheVariants as servefault
use Rattle.desk.specs.{Answers.is_closed_after, Faults.storage_fault, Office.AnswersOffice, SeenDesks.IsSeenOn, State.DeskState}
use Rattle.desk.specs.declared.fault.DeskFault.{DeskFault}
use Rattle.desk_model.specs.{Derived.status_faults, Tables.Tables, declared.call.OfficeAsk.OfficeAsk, declared.refusal.Refusal.Refusal}
use Rattle.desk_model.specs.declared.call.OfficeAsk.TheVariants as ask
use Rattle.store_api.specs.{Sight.FailsToRead, Sight.ForTables, Sight.Sight, Sight.Unchanged, Storing.Causes, declared.fault.StorageFault.StorageFault}
use Rattle.app_page.specs.Page.{page_html}
use Rattle.app_reports.specs.{About.about_text, About.ahead, Printed.faults_text, Reported.Reports, Listed.PrintsAll, Listed.Roster}
use Rattle.app_reports.specs.{declared.beside.Beside.Beside, declared.faults.Checked.Checked, declared.form.Form.Form, declared.fault.ReportFault.ReportFault}
use Rattle.app_reports.specs.declared.form.Form.TheVariants as form

-- ---- reports

-- the form that is asked for
abbrev pub form_of : Bool → Form
form_of true = form.Json
form_of false = form.Text

-- how a list of rows ends
abbrev pub how_listed : Result Unit ReportFault → Result ℕ Fault
how_listed (Ok done) = Ok 0
how_listed (Err why) = Err (report_fault why)

-- how a list of wrong statuses ends: by 3 where there is one
abbrev pub how_checked : Result Checked ReportFault → Result ℕ Fault
how_checked (Ok checked) = Ok (if checked.found then 3 else 0)
how_checked (Err why) = Err (report_fault why)

module _ {S C : Type 0} (v : Sight S C) where
  -- the rows of a list were printed, which changed nothing, or that was stopped
  pub record Lists {X : Type 0} (r : Roster X) (was is : Option (List ℕ)) (old new : S) (how : Result ℕ Fault) : Type 0 where
    pub listed : Result Unit ReportFault
    pub reads : Reports v old new listed
    pub printed : ForTables v old new (λ T. OnOk listed (PrintsAll r was is T))
    pub ends : how ≡ how_listed listed

  -- the wrong statuses were listed, which changed nothing, or that was stopped; one is found exactly where there is one
  pub record Checks (f : Form) (was is : Option (List ℕ)) (old new : S) (how : Result ℕ Fault) : Type 0 where
    pub checked : Result Checked ReportFault
    pub reads : Reports v old new checked
    pub found : ForTables v old new (λ T. IfOk checked (λ it. IsTrue it.found ↔ status_faults T ≢ []))
    pub printed : ForTables v old new (λ T. OnOk checked (Appends was is (faults_text f (status_faults T))))
    pub ends : how ≡ how_checked checked

module _ {S C : Type 0} (v : Sight S C) where
  -- the text that the tables give was printed, which changed nothing, or that was stopped
  pub record Tells (text : Tables → List ℕ) (was is : Option (List ℕ)) (old new : S) (how : Result ℕ Fault) : Type 0 where
    pub told : Result Unit ReportFault
    pub reads : Reports v old new told
    pub printed : ForTables v old new (λ T. OnOk told (Appends was is (text T)))
    pub ends : how ≡ how_listed told

-- ---- what is done by a desk

module _ {S C : Type 0} (v : Sight S C) where
  -- a desk was adopted over the store: it is open, and has the policy of the tables
  pub record Adopts (old : S) (desk : DeskState S) : Type 0 where
    pub unchanged : Unchanged v old desk.store
    pub policy : ForTables v old desk.store (λ T. desk.policy ≡ T.meta.policy)
    pub opened : desk.is_closed ≡ false

  -- the store failed where it was asked for the policy
  pub record FailsToAdopt (old new : S) (f : Fault) : Type 0 where
    pub why : StorageFault
    pub reads : FailsToRead v old new why
    pub fault : f ≡ fault.Desk (storage_fault why)

  -- no desk was adopted, and nothing written; or one was, this was done by it, and its store is given back
  pub data ByDesk (was is : Option (List ℕ)) (Does : DeskState S → DeskState S → Result ℕ Fault → Type 0) (old new : S) : Result ℕ Fault → Type 0 where
    unadopted : (why : Fault) → FailsToAdopt old new why → is ≡ was → ByDesk was is Does old new (Err why)
    adopted :
        (how : Result ℕ Fault) (desk ended : DeskState S) → Adopts old desk → Does desk ended how → new ≡ ended.store → ByDesk was is Does old new how

-- ---- revocations

-- what is asked of the desk
abbrev pub ask_of : Revocation → OfficeAsk
ask_of (revocation.Authorization number) = ask.RevokeAuthz number
ask_of (revocation.Account number) = ask.RevokeAccount number

-- how a revocation ends, by the desk's answer: where it is not refused, what says so may still fail to be written
abbrev pub IsTold : Result (Option Refusal) DeskFault → Result ℕ Fault → Type 0
IsTold (Ok None) how = (how ≡ Ok 0) ⊎ (how ≡ Err fault.Output)
IsTold (Ok (Some refusal)) how = how ≡ Err (fault.Refused refusal)
IsTold (Err why) how = how ≡ Err (fault.Desk why)

module _ {S C : Type 0} (v : Sight S C) where
  -- the desk answered the office's ask at this moment
  pub record Revokes (what : Revocation) (at : ℕ) (desk ended : DeskState S) (how : Result ℕ Fault) : Type 0 where
    pub answer : Result (Option Refusal) DeskFault
    pub answers : AnswersOffice v at (ask_of what) desk.store ended.store answer
    pub flag : ended.is_closed ≡ is_closed_after answer
    pub policy : ended.policy ≡ desk.policy
    pub told : IsTold answer how

-- ---- lines and connections

module _ {S C : Type 0} (v : Sight S C) where
  -- the lines of a reader with these bytes, where these are known, were answered, all of them or up to one that was not
  pub record AnswersLines (bytes was is : Option (List ℕ)) (desk ended : DeskState S) (how : Result ℕ Fault) : Type 0 where
    pub seen : IsSeenOn v desk ended
    pub answers : ((how ≡ Ok 0) × AnswersFirst v bytes was [] is desk ended) ⊎ ((how ≡ Ok 1) × StopsBehind v bytes was is desk ended)

-- how serving ends, by what ended it
abbrev pub how_served : Result Unit ServeFault → Result ℕ Fault
how_served (Ok done) = Ok 0
how_served (Err why) = Err (fault.Serve why)

-- the socket was not to be had, by some cause
abbrev pub IsOfSocket : Fault → Type 0
IsOfSocket e = (cause : SocketCause) × (e ≡ fault.Socket cause)

-- a port and a socket were not to be had, or not to be waited for together
abbrev pub IsOfBoth : Fault → Type 0
IsOfBoth e = (e ≡ fault.Serve servefault.Bind) ⊎ (IsOfSocket e ⊎ (e ≡ fault.Serve servefault.Accept))

-- where connections were to be taken was not to be had
abbrev pub IsUntaken : Listening → Fault → Type 0
IsUntaken (listening.At (place.Port port)) e = e ≡ fault.Serve servefault.Bind
IsUntaken (listening.At (place.Socket path)) e = IsOfSocket e
IsUntaken (listening.AtBoth port socket) e = IsOfBoth e

-- why no connection could be taken
abbrev pub IsUnserved : Listening → Result ℕ Fault → Type 0
IsUnserved l how = IsErrAnd how (IsUntaken l) ⊎ ((how ≡ Err fault.Output) ⊎ (how ≡ Err (fault.Serve servefault.Replaced)))

-- whatever is noted of a connection
abbrev pub TakesAny : Unit {0} → LogEntry → Unit {0} → Type 0
TakesAny before log_entry after = Unit {0}

-- what is known of moments, by the greatest step and the clock of the desk
abbrev pub watch_at : (step : Option ℕ) → (clock : ℕ) → Watch (Unit {0})
watch_at step clock = record { overseer = tt; bound = record { step = step; latest = clock } }

module _ {S C : Type 0} (v : Sight S C) (causes : Causes S) where
  -- no connection could be taken: the file was gone, the port or the socket was not to be had, or these not to be printed; or as many were served as
  -- is asked for, or 2^64 - 1, or fewer, and then the machine, the log or the desk failed. No call has a moment that is further above the
  -- clock of the desk, and the moments before it, than is asked for
  pub data Serves (s : Serving) (clock : ℕ) (desk ended : DeskState S) (how : Result ℕ Fault) : Type 0 where
    unserved : ended ≡ desk → IsUnserved s.listening how → Serves s clock desk ended how
    served :
        (served : Result Unit ServeFault) (bound : MomentBound) → IsSeenOn v desk ended
        → ServesConnections v causes (desk_shower v) TakesAny (unwrap_or s.count 18446744073709551615) desk (watch_at s.max_step clock) ended
        (record { overseer = tt; bound = bound }) served
        → how ≡ how_served served → Serves s clock desk ended how

-- a clock that is so far ahead is too far, where the greatest lead is given
abbrev pub is_too_far : (lead most : Option ℕ) → Bool
is_too_far (Some lead) (Some most) = nat_lt most lead
is_too_far (Some lead) None = false
is_too_far None most = false

-- the greatest lead is given, and no moment of which it could be one
abbrev pub lacks_moment : (now most : Option ℕ) → Bool
lacks_moment None (Some most) = true
lacks_moment None None = false
lacks_moment (Some now) most = false

module _ {S C : Type 0} (v : Sight S C) (causes : Causes S) where
  -- the clock of the desk is too far ahead of the machine's, and nothing was done; or it is not, and connections were served
  abbrev pub ServesUnlessAhead : (s : Serving) (now : Option ℕ) (clock : ℕ) (desk ended : DeskState S) (how : Result ℕ Fault) → Type 0
  ServesUnlessAhead s now clock desk ended how =
      ((is_too_far (ahead clock now) s.max_ahead ≡ true) × (ended ≡ desk) × (how ≡ Err fault.Ahead))
      ⊎ ((is_too_far (ahead clock now) s.max_ahead ≡ false) × Serves v causes s clock desk ended how)

  -- the machine told no moment, of which the clock of the desk may be ahead so far alone, and nothing was done; or that is not so
  abbrev pub ServesByMoment : (s : Serving) (now : Option ℕ) (clock : ℕ) (desk ended : DeskState S) (how : Result ℕ Fault) → Type 0
  ServesByMoment s now clock desk ended how =
      ((lacks_moment now s.max_ahead ≡ true) × (ended ≡ desk) × (how ≡ Err (fault.Serve servefault.Clock)))
      ⊎ ((lacks_moment now s.max_ahead ≡ false) × ServesUnlessAhead s now clock desk ended how)

module _ {S D : Type 0} (rows : Sight S D) where
  -- the clock of the desk was not to be read, and nothing written; or it was, which changed nothing, and then this was done
  pub data BehindClock (was is : Option (List ℕ)) (Does : ℕ → S → S → Result ℕ Fault → Type 0) (old new : S) : Result ℕ Fault → Type 0 where
    clockless : (why : Fault) → FailsToAdopt rows old new why → is ≡ was → BehindClock was is Does old new (Err why)
    clocked :
        (how : Result ℕ Fault) (clock : ℕ) (mid : S) → Unchanged rows old mid → ForTables rows old mid (λ T. clock ≡ T.meta.counters.clock)
        → Does clock mid new how → BehindClock was is Does old new how

-- ---- the tasks, by what their writer was given before them and has behind them, where it is known

-- what is known of a desk is told
abbrev pub TellsAbout : Beside → Deed Fault
TellsAbout b was is _ _ _ v causes rows = Tells rows (about_text b) was is

-- its page is written
abbrev pub TellsPage : Deed Fault
TellsPage was is _ _ _ v causes rows = Tells rows page_html was is

-- the rows of a list are printed
abbrev pub ListsRows : {X : Type 0} → Roster X → Deed Fault
ListsRows r was is _ _ _ v causes rows = Lists rows r was is

-- the wrong statuses are
abbrev pub ChecksStatuses : Form → Deed Fault
ChecksStatuses f was is _ _ _ v causes rows = Checks rows f was is

-- an authorization or an account is revoked at this moment
abbrev pub RevokesTarget : Revocation → ℕ → Deed Fault
RevokesTarget what at was is _ _ _ v causes rows = ByDesk v was is (Revokes v what at)

-- the lines of a reader with these bytes are answered
abbrev pub AnswersReader : (bytes : Option (List ℕ)) → Deed Fault
AnswersReader bytes was is _ _ _ v causes rows = ByDesk v was is (AnswersLines v bytes was is)

-- connections are served, once the clock is read, unless it is too far ahead of this moment of the machine
abbrev pub ServesClients : Serving → (now : Option ℕ) → Deed Fault
ServesClients s now was is _ _ _ v causes rows = BehindClock rows was is (λ clock. ByDesk v was is (ServesByMoment v causes s now clock))
