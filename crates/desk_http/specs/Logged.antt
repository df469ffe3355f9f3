-- What is noted of a connection that was served.
use Rattle.std.specs.Prelude.{◌≡◌, ◌⊎◌, ℕ, Bool, true, false, List, [], ◌++◌, Option, Some, None, MatchOption, Result, Ok, Err, codes, ◌||◌, ◌&&◌, nat_eq}
use Rattle.std.specs.Prelude.{nat_le, if◌then◌else◌}
use Rattle.desk.specs.Faults.{number_of}
use Rattle.desk_model.specs.Refusals.{refusal_of}
use Rattle.desk_model.specs.declared.{call.Ask.Ask, call.OfficeAsk.OfficeAsk, call.Target.Target, reply.Body.Body, reply.Reply.Reply}
use Rattle.desk_model.specs.declared.call.Ask.TheVariants as ask
use Rattle.desk_model.specs.declared.call.OfficeAsk.TheVariants as asks
use Rattle.desk_model.specs.declared.call.Target.TheVariants as to
use Rattle.desk_model.specs.declared.reply.Body.TheVariants as body
use Rattle.http_routes.specs.{Routes.HasNumber, declared.request.Request.Request}
use Rattle.http_routes.specs.declared.request.Request.TheVariants as request
use Rattle.std.specs.declared.alloc.AllocError.{AllocError}
use Rattle.desk_http.specs.declared.{serving.Unanswered.Unanswered, serving.IoFault.IoFault, serving.Served.Served, overseeing.ReplySummary.ReplySummary}
use Rattle.desk_http.specs.declared.overseeing.Entry.{Entry}
use Rattle.desk_http.specs.declared.serving.Unanswered.TheVariants as cause

-- ---- the summary of a reply

-- the number of the refusal, where the body is one
abbrev pub refusal_number : Body → Option ℕ
refusal_number (body.Problem p) = Some (refusal_of p.refusal).number
refusal_number _ = None

-- the path of the account or of the order of this number
abbrev pub IsPathOf : (path : List ℕ) → ℕ → Type 0
IsPathOf path n = HasNumber path (codes "/account/") n [] ⊎ HasNumber path (codes "/order/") n []

-- its URL
abbrev pub IsUrlOf : (base url : List ℕ) → ℕ → Type 0
IsUrlOf base url n = (path : List ℕ) × (url ≡ base ++ path) × IsPathOf path n

-- the number of the account or of the order that a Location is of, where there is one
abbrev pub IsLocated : (base : List ℕ) → Option (List ℕ) → Option ℕ → Type 0
IsLocated base None found = found ≡ None
IsLocated base (Some url) found = MatchOption found ((n : ℕ) → IsUrlOf base url n → ⊥) (λ n. IsUrlOf base url n)

-- this is its summary
pub record IsSummaryOf (base : List ℕ) (reply : Reply) (summary : ReplySummary) : Type 0 where
  pub status : summary.status ≡ reply.status
  pub refusal : summary.refusal ≡ refusal_number reply.body
  pub located : IsLocated base reply.location summary.located

-- ---- what was sent

-- the status of the reply, or of what was written in its place, that the desk could not act
abbrev pub status_by : Option ReplySummary → Bool → Option ℕ
status_by (Some summary) written = Some summary.status
status_by None true = Some 500
status_by None false = None

-- that of a connection which did not fail
abbrev pub outcome_status : Result Served IoFault → Option ℕ
outcome_status (Ok served) = status_by served.summary served.written
outcome_status (Err why) = None

-- the number of a fault: that of memory where the call or its reply found none
abbrev pub number_of_cause : Unanswered → ℕ
number_of_cause (cause.Desk why) = number_of why
number_of_cause cause.Reading = 20
number_of_cause cause.Text = 20

-- the number of what took the reply's place, or of its refusal
abbrev pub number_by : Option Unanswered → Option ReplySummary → Option ℕ
number_by (Some why) summary = Some (number_of_cause why)
number_by None (Some summary) = summary.refusal
number_by None None = None

abbrev pub outcome_number : Result Served IoFault → Option ℕ
outcome_number (Ok served) = number_by served.cause served.summary
outcome_number (Err why) = None

-- ---- what was asked

-- the number of the object that a signed request is sent to
abbrev pub number_of_target : Target → Option ℕ
number_of_target to.NewAccount = None
number_of_target to.KeyChange = None
number_of_target to.NewOrder = None
number_of_target (to.Account n) = Some n
number_of_target (to.Orders n) = Some n
number_of_target (to.Order n) = Some n
number_of_target (to.Finalize n) = Some n
number_of_target (to.Cert n) = Some n
number_of_target (to.Authz n) = Some n
number_of_target (to.Chall n) = Some n

-- that an office asks about
abbrev pub number_of_office : OfficeAsk → Option ℕ
number_of_office asks.Directory = None
number_of_office (asks.Report challenge found) = Some challenge
number_of_office (asks.Certify order bytes) = Some order
number_of_office (asks.FailOrder order problem) = Some order
number_of_office (asks.RevokeAuthz authz) = Some authz
number_of_office (asks.RevokeAccount account) = Some account
number_of_office asks.ChallengeWork = None
number_of_office asks.OrderWork = None
number_of_office (asks.KeyOf account) = Some account

abbrev pub number_of_ask : Ask → Option ℕ
number_of_ask (ask.NewNonce head) = None
number_of_ask (ask.Signed s) = number_of_target s.target
number_of_ask (ask.Office a) = number_of_office a

-- of what was read
abbrev pub object_asked : Result Request AllocError → Option ℕ
object_asked (Ok (request.Asks what)) = number_of_ask what
object_asked _ = None

-- the first number, where there is one, else the other
abbrev pub first_of : Option ℕ → Option ℕ → Option ℕ
first_of (Some n) other = Some n
first_of None other = other

-- the number of what the reply locates, or of what was asked about
abbrev pub located_or : Option ℕ → Option ReplySummary → Option ℕ
located_or asked (Some summary) = first_of summary.located asked
located_or asked None = asked

-- the number of the object that was made, or of the one that was asked about
abbrev pub object_of : Option ℕ → Result Served IoFault → Option ℕ
object_of asked (Ok served) = located_or asked served.summary
object_of asked (Err why) = asked

-- ---- an entry

-- what an entry says of a connection that was served
pub record LogEntry : Type 0 where
  pub at : ℕ
  pub method : List ℕ
  pub path : List ℕ
  pub status : Option ℕ
  pub number : Option ℕ
  pub object : Option ℕ
  pub micros : Option ℕ

-- what an entry notes
abbrev pub as_log_entry : Entry → LogEntry
as_log_entry e = record {
  at = e.at;
  method = e.method.now;
  path = e.path.now;
  status = e.status;
  number = e.number;
  object = e.object;
  micros = e.micros;
}

-- it is of a connection that came at this moment, asked about this object, and was served so
pub record IsLogEntryOf (came : ℕ) (asked : Option ℕ) (served : Result Served IoFault) (log_entry : LogEntry) : Type 0 where
  pub at : log_entry.at ≡ came
  pub status : log_entry.status ≡ outcome_status served
  pub number : log_entry.number ≡ outcome_number served
  pub object : log_entry.object ≡ object_of asked served

-- ---- the first line of a request

-- a byte as an entry has it: the end of a line as a space, and a question mark for what is no visible character of ASCII, or a quotation mark
-- or a backslash
abbrev pub shown : ℕ → ℕ
shown c =
    if nat_eq c 32 || nat_eq c 13 || nat_eq c 10 then 32
    else (if nat_eq c 34 || nat_eq c 92 then 63
    else (if nat_le 33 c && nat_le c 126 then c
    else 63))
