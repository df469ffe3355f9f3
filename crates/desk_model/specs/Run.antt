-- Runs of calls, and the faults of a call.
use Rattle.std.specs.Prelude.{ℕ, ◌+◌, ◌*◌, List, [], ◌∷◌, length, not, nat_lt, Option, Some, None, Result, Ok, Err, IsUtf8, if◌then◌else◌}
use Rattle.desk_model.specs.{Entry.Entry, Entry.issued, Entry.ordered, Entry.Wanted, Entry.new, Entry.reused, Entry.History, Keys.IsKeyText, Legal.numbers_fit}
use Rattle.desk_model.specs.{Limits.last_moment, Texts.IsTextProblem, Decide.decide, Decide.after, declared.call.BadKey.BadKey, declared.call.Call.Call}
use Rattle.desk_model.specs.{declared.call.Ask.Ask, declared.call.OfficeAsk.OfficeAsk, declared.call.Signed.Signed, declared.reply.Reply.Reply}
use Rattle.desk_model.specs.declared.call.Ask.TheVariants as ask
use Rattle.desk_model.specs.declared.call.OfficeAsk.TheVariants as office

-- ---- faults of a call

abbrev pub count_tokens : List Wanted → ℕ
count_tokens [] = 0
count_tokens (new name tokens ∷ rest) = length tokens + count_tokens rest
count_tokens (reused name n ∷ rest) = count_tokens rest

-- how many authorizations are made
abbrev pub count_new : List Wanted → ℕ
count_new [] = 0
count_new (new name tokens ∷ rest) = 1 + count_new rest
count_new (reused name n ∷ rest) = count_new rest

abbrev pub pieces_of : Entry → ℕ
pieces_of (issued random) = 1
pieces_of (ordered account wanted) = count_tokens wanted
pieces_of _ = 0

-- how many pieces of 16 random bytes the entries take
abbrev pub count_pieces : List Entry → ℕ
count_pieces [] = 0
count_pieces (e ∷ es) = pieces_of e + count_pieces es

-- the fault of a call: a moment above the last, a number above the greatest, too few random bytes
abbrev pub fault : History → Call → Option ℕ
fault F call =
    if nat_lt last_moment call.at then Some 24
    else (if not (numbers_fit (after F call)) then Some 26
    else (if nat_lt (length call.random) (16 * count_pieces (decide F call).entries) then Some 25
    else None))

-- a key that was accepted has its canonical text
abbrev pub IsFormedKey : Result (List ℕ) BadKey → Type 0
IsFormedKey (Ok key) = IsKeyText key
IsFormedKey (Err e) = Unit {0}

-- what the types of a request's parts keep: its payload is UTF-8, too
pub record IsFormedSigned (s : Signed) : Type 0 where
  pub key : IsFormedKey s.key
  pub payload : IsUtf8 s.payload

-- what the types of a call's parts keep
abbrev pub IsFormedOfficeAsk : OfficeAsk → Type 0
IsFormedOfficeAsk (office.FailOrder order problem) = IsTextProblem problem
IsFormedOfficeAsk _ = Unit {0}

abbrev pub IsFormedAsk : Ask → Type 0
IsFormedAsk (ask.NewNonce head) = Unit {0}
IsFormedAsk (ask.Signed s) = IsFormedSigned s
IsFormedAsk (ask.Office a) = IsFormedOfficeAsk a

abbrev pub IsFormedCall : Call → Type 0
IsFormedCall call = IsFormedAsk call.ask

-- ---- runs

pub record Ran : Type 0 where
  pub replies : List Reply
  pub history : History

abbrev pub and_reply : Reply → Ran → Ran
and_reply reply ran = record ran { replies = reply ∷ ran.replies }

abbrev pub unless_faulty : Option ℕ → History → Ran → Ran
unless_faulty None F ran = ran
unless_faulty (Some n) F ran = record { replies = []; history = F }

-- the replies to calls made in turn and the history after them, up to the first call that has a fault
abbrev pub run : History → List Call → Ran
run F [] = record { replies = []; history = F }
run F (call ∷ calls) = unless_faulty (fault F call) F (and_reply (decide F call).reply (run (after F call) calls))
