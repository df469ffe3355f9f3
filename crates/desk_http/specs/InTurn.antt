-- What serving connections one after the other does to a desk.
use Rattle.std.specs.Prelude.{◌≡◌, ◌⊎◌, ◌<◌, ℕ, length, List, zero, suc, Bool, true, false, Option, Some, None, Result, Ok, Err, IsTrue, MatchResult}
use Rattle.std.specs.{Io.KnownBytes.Keeps, declared.alloc.AllocError.AllocError}
use Rattle.store_api.specs.{Sight.Sight, Storing.Causes}
use Rattle.desk.specs.{Faults.closes, State.DeskState, declared.fault.DeskFault.DeskFault}
use Rattle.desk.specs.declared.fault.DeskFault.TheVariants as deskfault
use Rattle.desk_model.specs.declared.call.{Ask.Ask, Target.Target}
use Rattle.desk_model.specs.declared.call.Ask.TheVariants as ask
use Rattle.desk_model.specs.declared.call.Target.TheVariants as to
use Rattle.http_routes.specs.declared.{looked.Looked.Looked, request.Request.Request}
use Rattle.http_routes.specs.declared.request.Request.TheVariants as request
use Rattle.http_wire.specs.declared.call.ParsedRequest.{ParsedRequest}
use Rattle.desk_http.specs.{MomentBounds.followed, MomentBounds.moment_for, Logged.IsLogEntryOf, Logged.LogEntry, Logged.object_asked, Serving.Breaks}
use Rattle.desk_http.specs.{Serving.IsParsedOf, Serving.Serves, Showing.Shower, Showing.ShowsTo, Showing.looked_in}
use Rattle.desk_http.specs.{declared.moment_bound.MomentBound.MomentBound, declared.overseeing.Watch.Watch, declared.serving.Unanswered.Unanswered}
use Rattle.desk_http.specs.{declared.serving.IoFault.IoFault, declared.serving.Served.Served, declared.serve_fault.ServeFault.ServeFault}
use Rattle.desk_http.specs.declared.serving.Unanswered.TheVariants as cause
use Rattle.desk_http.specs.declared.serving.IoFault.TheVariants as iofault
use Rattle.desk_http.specs.declared.serve_fault.ServeFault.TheVariants as servefault

-- the fault, if it closes a desk
abbrev pub if_closes : DeskFault → Bool → Option DeskFault
if_closes why true = Some why
if_closes why false = None

-- the fault by which a request closed the desk, where the connection did not fail
abbrev pub fault_of : Option Unanswered → Option DeskFault
fault_of (Some (cause.Desk why)) = if_closes why (closes why)
fault_of _ = None

-- and where it did: that a desk that is closed is to be opened again
abbrev pub fault_after : Result Served IoFault → Bool → Option DeskFault
fault_after (Ok served) is_closed = fault_of served.cause
fault_after (Err why) is_closed = if_closes deskfault.Reopen is_closed

-- how the serving of a connection ends, by the fault that closed the desk and whether its entry is kept
abbrev pub ended_by : Option DeskFault → Bool → Result Unit ServeFault
ended_by (Some why) kept = Err (servefault.Desk why)
ended_by None true = Ok tt
ended_by None false = Err servefault.Output

-- ---- random bytes

-- how many a request with this target may take: those of a fresh nonce, and for a new order two tokens' for each of a hundred names
abbrev pub random_for_target : Target → ℕ
random_for_target to.NewOrder = 1616
random_for_target _ = 16

abbrev pub random_for_ask : Ask → ℕ
random_for_ask (ask.NewNonce head) = 16
random_for_ask (ask.Signed s) = random_for_target s.target
random_for_ask (ask.Office a) = 0

-- and what was read of it; a refusal takes none
abbrev pub random_for : Result Request AllocError → ℕ
random_for (Ok (request.Asks what)) = random_for_ask what
random_for _ = 0

module _ {S C : Type 0} (v : Sight S C) (causes : Causes S) where
  -- how the request of a client was served that sends these bytes, and what was written behind these earlier ones, where they are known;
  -- or that its connection failed. Its call had some moment, and the random bytes that it may take
  pub record ServesParsed (remaining before after : Option (List ℕ)) (old new : DeskState S) (served : Result Served IoFault) : Type 0 where
    pub parsed : ParsedRequest
    pub is_heard : IsParsedOf remaining parsed
    pub at : ℕ
    pub random : List ℕ
    pub enough : length random ≡ random_for parsed.request
    pub does :
        MatchResult served (Serves v causes at random new.policy.base remaining before after old new)
        (Breaks v causes at random new.policy.base remaining before after old new)

  -- and that this was the moment of its call
  abbrev pub ServesAt : ℕ → (remaining before after : Option (List ℕ)) → (old new : DeskState S) → Result Served IoFault → Type 0
  ServesAt at remaining before after old new served = (it : ServesParsed remaining before after old new served) × (it.at ≡ at)

  -- and this what was read
  abbrev pub ServesRead : ℕ → ParsedRequest → (remaining before after : Option (List ℕ)) → (old new : DeskState S) → Result Served IoFault → Type 0
  ServesRead at parsed remaining before after old new served =
      (it : ServesParsed remaining before after old new served) × (it.at ≡ at) × (it.parsed ≡ parsed)

-- ---- clients, who are answered or shown what they ask for

module _ {S C : Type 0} (v : Sight S C) (causes : Causes S) (hook : Shower S) where
  -- what a client was shown that sends these bytes
  pub record ServesLook (remaining before after : Option (List ℕ)) (old new : DeskState S) (served : Result Served IoFault) : Type 0 where
    pub parsed : ParsedRequest
    pub is_heard : IsParsedOf remaining parsed
    pub looked : Looked
    pub asks : looked_in parsed.request ≡ Some looked
    pub shows : ShowsTo v hook looked before after old new served

  -- a client that came at a moment of the machine, by what is then known of the moment: its request could not be read, and then nothing was
  -- done; or it was answered at the moment that the bound gives, and the bound follows; or it was shown what it asked for, at no moment. What
  -- it asked about is told, too
  pub data ServesClient (bound : MomentBound) (came : ℕ) (remaining before after : Option (List ℕ)) (old new : DeskState S) (asked : Option ℕ)
      (served : Result Served IoFault) (next : MomentBound) : Type 0 where
    unread :
        new ≡ old → Keeps before after → asked ≡ None → served ≡ Err iofault.Read → next ≡ bound
        → ServesClient bound came remaining before after old new asked served next
    parsed :
        (s : ServesParsed v causes remaining before after old new served) → looked_in s.parsed.request ≡ None → s.at ≡ moment_for bound came
        → asked ≡ object_asked s.parsed.request → next ≡ followed bound came
        → ServesClient bound came remaining before after old new asked served next
    looked :
        (s : ServesLook remaining before after old new served) → asked ≡ object_asked s.parsed.request → next ≡ bound
        → ServesClient bound came remaining before after old new asked served next

  module _ {O : Type 0} (takes : O → LogEntry → O → Type 0) where
    -- one connection, by the watch before and after: the fault by which the desk is closed after it, if it is, and whether its entry was kept,
    -- which then is of what was served. A socket tells neither what its client sends nor what it was given
    pub record ServesOne (why : Option DeskFault) (kept : Bool) (old : DeskState S) (was : Watch O) (new : DeskState S) (is : Watch O) : Type 0 where
      pub came : ℕ
      pub asked : Option ℕ
      pub served : Result Served IoFault
      pub serves : ServesClient was.bound came None None None old new asked served is.bound
      pub closed : fault_after served new.is_closed ≡ why
      pub logged : IsTrue kept → (log_entry : LogEntry) × IsLogEntryOf came asked served log_entry × takes was.overseer log_entry is.overseer

    -- so many connections, one after the other, none of which closed the desk, each with its entry
    abbrev pub ServesMany : ℕ → DeskState S → Watch O → DeskState S → Watch O → Type 0
    ServesMany zero old was new is = (new ≡ old) × (is ≡ was)
    ServesMany (suc n) old was new is =
        (mid : DeskState S) × (between : Watch O) × ServesMany n old was mid between × ServesOne None true mid between new is

    -- so many of them, and one more, by whose fault the desk is closed, if it is
    pub record ServesUntil (most : ℕ) (why : Option DeskFault) (old : DeskState S) (was : Watch O) (new : DeskState S) (is : Watch O) : Type 0 where
      pub count : ℕ
      pub fewer : count < most
      pub mid : DeskState S
      pub between : Watch O
      pub many : ServesMany count old was mid between
      pub kept : Bool
      pub last : ServesOne why kept mid between new is
      pub unkept : why ≡ None → kept ≡ false

    -- so many of them, and then the machine failed
    pub record ServesFewer (most : ℕ) (old : DeskState S) (was : Watch O) (new : DeskState S) (is : Watch O) : Type 0 where
      pub count : ℕ
      pub fewer : count < most
      pub between : Watch O
      pub many : ServesMany count old was new between
      pub overseer : is.overseer ≡ between.overseer

    -- all connections; or fewer, and then the one by whose fault the desk is closed, or of which no entry is kept, or a failure of the machine
    abbrev pub ServesConnections : ℕ → DeskState S → Watch O → DeskState S → Watch O → Result Unit ServeFault → Type 0
    ServesConnections most old was new is (Ok done) = ServesMany most old was new is
    ServesConnections most old was new is (Err (servefault.Desk why)) = ServesUntil most (Some why) old was new is
    ServesConnections most old was new is (Err servefault.Output) = ServesUntil most None old was new is
    ServesConnections most old was new is (Err machine) = ServesFewer most old was new is

    -- one connection of them
    abbrev pub ServesNext : DeskState S → Watch O → DeskState S → Watch O → Result Unit ServeFault → Type 0
    ServesNext old was new is (Ok done) = ServesOne None true old was new is
    ServesNext old was new is (Err (servefault.Desk why)) = (kept : Bool) × ServesOne (Some why) kept old was new is
    ServesNext old was new is (Err servefault.Output) = ServesOne None false old was new is
    ServesNext old was new is (Err machine) = (new ≡ old) × (is.overseer ≡ was.overseer)

-- the desk is closed by a fault that closes
pub record IsClosedBy {S : Type 0} (why : DeskFault) (desk : DeskState S) : Type 0 where
  pub closes : closes why ≡ true
  pub closed : desk.is_closed ≡ true

-- the machine failed before a request was answered: its clock, its source of random bytes, or the place of the desk
abbrev pub IsOfMachine : ServeFault → Type 0
IsOfMachine e = (e ≡ servefault.Clock) ⊎ ((e ≡ servefault.Random) ⊎ (e ≡ servefault.Replaced))

-- a desk that was open is closed exactly where a fault of it is told
abbrev pub Ends : {S : Type 0} → Result Unit ServeFault → DeskState S → Type 0
Ends (Err (servefault.Desk why)) desk = IsClosedBy why desk
Ends _ desk = desk.is_closed ≡ false
