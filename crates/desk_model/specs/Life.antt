-- The lives of a desk: what may happen to it, and what holds over every life.
use Rattle.std.specs.Prelude.{ℕ, ◌≡◌, List, [], ◌∷◌, ◌++◌, Bool, true, false, Option, Some, None, IsTrue, is_some}
use Rattle.desk_model.specs.Tables.{Tables, AccountRow, ChallengeRow, AuthorizationRow, OrderRow, tables_at, picture}
use Rattle.desk_model.specs.{Entry.History, History.moment_of, Legal.Legal, Authorization.is_over, Rules.open_nonce, Questions.account_on, Questions.order_on}
use Rattle.desk_model.specs.{Questions.authorization_on, Questions.owner_on, Questions.challenge_of, Decide.decide, Decide.after, Run.fault, Run.IsFormedCall}
use Rattle.desk_model.specs.{declared.call.Call.Call, declared.call.Signed.Signed, declared.reply.Reply.Reply, declared.status.AccountStatus.AccountStatus}
use Rattle.desk_model.specs.{declared.status.OrderStatus.OrderStatus, declared.status.ChallengeStatus.ChallengeStatus}
use Rattle.desk_model.specs.declared.call.Ask.TheVariants as ask
use Rattle.desk_model.specs.declared.status.AccountStatus.TheVariants as account
use Rattle.desk_model.specs.declared.status.OrderStatus.TheVariants as order
use Rattle.desk_model.specs.declared.status.ChallengeStatus.TheVariants as chall

pub data Event : Type 0 where
  -- the call was answered
  Replied : Call → Reply → Event
  -- the call was answered by a fault after which the desk goes on
  Faulted : Call → Event
  -- the desk stopped in the call, which was kept or not
  Stopped : Call → (kept : Bool) → Event
  Reopened : Event

abbrev pub step : Event → History → History
step (Replied call reply) F = after F call
step (Faulted call) F = F
step (Stopped call true) F = after F call
step (Stopped call false) F = F
step Reopened F = F

-- the history after these events, the latest first
abbrev pub history : History → List Event → History
history start [] = start
history start (e ∷ earlier) = step e (history start earlier)

-- a stopped desk is opened again before anything else
abbrev pub is_running : List Event → Bool
is_running (Stopped call kept ∷ earlier) = false
is_running _ = true

abbrev pub MayHappen : Event → History → List Event → Type 0
MayHappen (Replied call reply) F earlier = IsTrue (is_running earlier) × IsFormedCall call × (fault F call ≡ None) × (reply ≡ (decide F call).reply)
MayHappen (Faulted call) F earlier = IsTrue (is_running earlier)
MayHappen (Stopped call true) F earlier = IsTrue (is_running earlier) × IsFormedCall call × (fault F call ≡ None)
MayHappen (Stopped call false) F earlier = IsTrue (is_running earlier)
MayHappen Reopened F earlier = Unit {0}

-- a life begins from any legal history: that of a desk just made, or of one that is found in a file
abbrev pub IsLife : History → List Event → Type 0
IsLife start [] = Legal start
IsLife start (e ∷ earlier) = MayHappen e (history start earlier) earlier × IsLife start earlier

-- the calls that were acknowledged and those that a stop kept, the latest first
abbrev pub kept_calls : List Event → List Call
kept_calls [] = []
kept_calls (Replied call reply ∷ earlier) = call ∷ kept_calls earlier
kept_calls (Faulted call ∷ earlier) = kept_calls earlier
kept_calls (Stopped call true ∷ earlier) = call ∷ kept_calls earlier
kept_calls (Stopped call false ∷ earlier) = kept_calls earlier
kept_calls (Reopened ∷ earlier) = kept_calls earlier

-- the history after these calls, the latest first
abbrev pub made_by : History → List Call → History
made_by start [] = start
made_by start (c ∷ calls) = after (made_by start calls) c

-- the history is that at the start with the entries of these calls, each call's whole: they are the first ones
-- of those that the life acknowledged or kept, and no other
pub record IsBeginning (start : History) (life : List Event) (calls : List Call) (before : History) : Type 0 where
  pub later : List Call
  pub first : kept_calls life ≡ later ++ calls
  pub whole : before ≡ made_by start calls

-- the call is a signed request with this nonce text, which is open
pub record Passed (F : History) (call : Call) (text : List ℕ) : Type 0 where
  pub signed : Signed
  pub is : call.ask ≡ ask.Signed signed
  pub nonce : signed.nonce ≡ Some text
  pub open_at : IsTrue (is_some (open_nonce (tables_at F (moment_of call.at F)) (Some text)))

-- ---- rows that have ended

abbrev pub is_final_account : AccountStatus → Bool
is_final_account account.Valid = false
is_final_account _ = true

abbrev pub is_final_order : OrderStatus → Bool
is_final_order order.Valid = true
is_final_order order.Invalid = true
is_final_order _ = false

abbrev pub is_final_challenge : ChallengeStatus → Bool
is_final_challenge chall.Valid = true
is_final_challenge chall.Invalid = true
is_final_challenge _ = false

-- the row of a challenge, in that of its authorization
abbrev pub challenge_in_rows : ℕ → Option AuthorizationRow → Option ChallengeRow
challenge_in_rows n None = None
challenge_in_rows n (Some a) = challenge_of n a

abbrev pub challenge_on : Tables → ℕ → Option ChallengeRow
challenge_on T n = challenge_in_rows n (owner_on T n)

-- the rows of the tables T that have ended stand unchanged in U
pub record EndedRowsStay (T U : Tables) : Type 0 where
  pub accounts : (n : ℕ) (row : AccountRow) → account_on T n ≡ Some row → IsTrue (is_final_account row.status) → account_on U n ≡ Some row
  pub orders : (n : ℕ) (row : OrderRow) → order_on T n ≡ Some row → IsTrue (is_final_order row.status) → order_on U n ≡ Some row
  pub authorizations : (n : ℕ) (row : AuthorizationRow) → authorization_on T n ≡ Some row → IsTrue (is_over row.status) → authorization_on U n ≡ Some row
  pub challenges : (n : ℕ) (row : ChallengeRow) → challenge_on T n ≡ Some row → IsTrue (is_final_challenge row.status) → challenge_on U n ≡ Some row

-- ---- what holds over every life

-- each history is legal
abbrev pub HistoriesAreLegal : Type 0
HistoriesAreLegal = (start : History) (life : List Event) → IsLife start life → Legal (history start life)

-- each history is made by the acknowledged calls and some of the stopped ones, none in part
abbrev pub HistoriesAreOfCalls : Type 0
HistoriesAreOfCalls = (start : History) (life : List Event) → IsLife start life → history start life ≡ made_by start (kept_calls life)

-- what was acknowledged stays: the history after an acknowledged call, which ends with that call, is a beginning of each
-- later one
abbrev pub AcknowledgedStays : Type 0
AcknowledgedStays =
    (start : History) (later earlier : List Event) (call : Call) (reply : Reply)
    → IsLife start (later ++ Replied call reply ∷ earlier)
    → IsBeginning start (later ++ Replied call reply ∷ earlier) (call ∷ kept_calls earlier) (history start (Replied call reply ∷ earlier))

-- each acknowledged reply is the one decided
abbrev pub RepliesAreDecided : Type 0
RepliesAreDecided =
    (start : History) (later earlier : List Event) (call : Call) (reply : Reply)
    → IsLife start (later ++ Replied call reply ∷ earlier)
    → reply ≡ (decide (history start earlier) call).reply

-- no nonce serves twice
abbrev pub NoncesServeOnce : Type 0
NoncesServeOnce =
    (start : History) (later middle earlier : List Event) (first second : Call) (reply other : Reply) (text : List ℕ)
    → IsLife start (later ++ Replied second other ∷ middle ++ Replied first reply ∷ earlier)
    → Passed (history start earlier) first text
    → Passed (history start (middle ++ Replied first reply ∷ earlier)) second text
    → ⊥

-- what has ended keeps its row in the tables
abbrev pub EndedStays : Type 0
EndedStays =
    (start : History) (later earlier : List Event)
    → IsLife start (later ++ earlier)
    → EndedRowsStay (picture (history start earlier)) (picture (history start (later ++ earlier)))
