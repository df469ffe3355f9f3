-- What serving one request does: what is written, and what the desk then is.
use Rattle.std.specs.Prelude.{◌≡◌, ◌<◌, ◌↔◌, ℕ, Bool, true, false, List, Option, Some, None, Result, Ok, Err, IfErr, IfSome, IsTrue, take}
use Rattle.std.specs.{Io.KnownBytes.Appends, Io.KnownBytes.Keeps, declared.alloc.AllocError.AllocError}
use Rattle.desk_model.specs.{Limits.last_moment, declared.call.Ask.Ask, declared.call.Call.Call, declared.reply.Reply.Reply}
use Rattle.desk_model.specs.declared.refusal.Refusal.TheVariants as refusal
use Rattle.desk_model.specs.declared.reply.Allow.TheVariants as allow
use Rattle.store_api.specs.{Sight.Sight, Storing.Causes}
use Rattle.desk.specs.{Answers.Answers, Answers.is_closed_after, Causes.IsCaused, State.DeskState, declared.fault.DeskFault.DeskFault}
use Rattle.desk.specs.declared.fault.DeskFault.TheVariants as deskfault
use Rattle.http_routes.specs.{Request.refused_reply, Request.refused_request, Request.unshown, declared.request.Request.Request}
use Rattle.http_routes.specs.declared.request.Request.TheVariants as request
use Rattle.http_wire.specs.{Replies.reply_bytes, ParsedRequest.Parses, declared.call.ParsedRequest.ParsedRequest, declared.call.ReplyForm.ReplyForm}
use Rattle.http_wire.specs.Spelled.{IsReplyForm, Spells}
use Rattle.desk_http.specs.Logged.{IsSummaryOf}
use Rattle.desk_http.specs.declared.{serving.Unanswered.Unanswered, serving.IoFault.IoFault, serving.Served.Served, overseeing.ReplySummary.ReplySummary}
use Rattle.desk_http.specs.declared.serving.Unanswered.TheVariants as cause
use Rattle.desk_http.specs.declared.serving.IoFault.TheVariants as iofault

-- the call of a request that asks this
abbrev pub call_of : ℕ → List ℕ → Ask → Call
call_of at random what = record { at = at; random = random; ask = what }

-- the input, where it is known, is this request
abbrev pub Spelled : Option (List ℕ) → Request → Type 0
Spelled remaining q = IfSome remaining (λ input. Spells input q)

-- this was read of the input, where it is known
abbrev pub IsParsedOf : Option (List ℕ) → ParsedRequest → Type 0
IsParsedOf remaining parsed = IfSome remaining (λ input. Parses input parsed)

-- ---- what is written in place of a reply: that the desk could not act, or nothing where memory for it was refused

-- whether it has the link to the directory: by the path, which is not known where memory was refused in reading the call
abbrev pub index_for : Unanswered → ReplyForm → Bool
index_for cause.Reading form = true
index_for _ form = form.index

-- the text that says so, refusal 15 without a nonce
abbrev pub fault_bytes : List ℕ → Bool → Bool → List ℕ
fault_bytes base index head_only = reply_bytes base (refused_reply (refused_request refusal.ServerInternal allow.No index)) head_only

-- that text, or nothing
abbrev pub WritesFault : List ℕ → Bool → Bool → Option (List ℕ) → Option (List ℕ) → Bool → Type 0
WritesFault base index head_only before after true = Appends before after (fault_bytes base index head_only)
WritesFault base index head_only before after false = Keeps before after

-- a beginning of a text was written, where the writer failed: nothing at least, and all of it at most
abbrev pub AppendsBeginning : Option (List ℕ) → Option (List ℕ) → List ℕ → Type 0
AppendsBeginning before after text = (count : ℕ) × Appends before after (take count text)

-- there is a summary, and it is the reply's
abbrev pub HasSummary : List ℕ → Reply → Option ReplySummary → Type 0
HasSummary base reply None = ⊥
HasSummary base reply (Some summary) = IsSummaryOf base reply summary

-- ---- the desk

module _ {S C : Type 0} (v : Sight S C) (causes : Causes S) where
  -- what a desk promises of a call (`desk::Desk::answer`)
  pub record IsAnswer (call : Call) (old new : DeskState S) (result : Result Reply DeskFault) : Type 0 where
    pub closed : IsTrue old.is_closed → (result ≡ Err deskfault.Reopen) × (new ≡ old)
    pub late : old.is_closed ≡ false → (result ≡ Err deskfault.Moment) ↔ (last_moment < call.at)
    pub unmade : last_moment < call.at → new ≡ old
    pub caused : old.is_closed ≡ false → IfErr result (IsCaused v causes old.store new.store)
    pub exit : old.is_closed ≡ false → Answers v call old.store new.store result
    pub flag : old.is_closed ≡ false → new.is_closed ≡ is_closed_after result
    pub policy : new.policy ≡ old.policy

  module _ (at : ℕ) (random : List ℕ) where
    -- the answer to a request: the desk's to its call, or its refusal, and then nothing changed
    abbrev pub Responds : DeskState S → Request → Result Reply DeskFault → DeskState S → Type 0
    Responds old (request.Asks what) result new = IsAnswer (call_of at random what) old new result
    Responds old (request.Looks l) result new = (result ≡ Ok (refused_reply unshown)) × (new ≡ old)
    Responds old (request.Refused why) result new = (result ≡ Ok (refused_reply why)) × (new ≡ old)

    -- ---- one request, of a reader whose bytes may be known

    -- the input's request had this answer
    pub record HasAnswer (remaining : Option (List ℕ)) (old new : DeskState S) (result : Result Reply DeskFault) : Type 0 where
      pub request : Request
      pub spelled : Spelled remaining request
      pub responds : Responds old request result new

    -- why the request did not have its reply written, and what the desk then is
    abbrev pub Fails : Option (List ℕ) → DeskState S → DeskState S → Unanswered → Type 0
    Fails remaining old new (cause.Desk why) = HasAnswer remaining old new (Err why)
    Fails remaining old new cause.Reading = new ≡ old
    Fails remaining old new cause.Text = (reply : Reply) × HasAnswer remaining old new (Ok reply)

    -- the reply was written, or in its place that the desk could not act
    abbrev pub ServesBy : List ℕ → Option (List ℕ) → Option (List ℕ) → Option (List ℕ) → DeskState S → DeskState S → ReplyForm
        → Option Unanswered → Bool → Option ReplySummary → Type 0
    ServesBy base remaining before after old new form None written summary =
        (reply : Reply) × HasAnswer remaining old new (Ok reply) × Appends before after (reply_bytes base reply form.head_only) × (written ≡ true)
        × HasSummary base reply summary
    ServesBy base remaining before after old new form (Some why) written summary =
        Fails remaining old new why × WritesFault base (index_for why form) form.head_only before after written × (summary ≡ None)

    -- what was served: how the reply is written is the input's, too
    abbrev pub Serves : List ℕ → Option (List ℕ) → Option (List ℕ) → Option (List ℕ) → DeskState S → DeskState S → Served → Type 0
    Serves base remaining before after old new served =
        (form : ReplyForm) × IfSome remaining (λ input. IsReplyForm input form)
        × ServesBy base remaining before after old new form served.cause served.written served.summary

    -- the writer failed where the reply was written, or in its place that the desk could not act: a beginning of that was written
    abbrev pub CutOffBy : List ℕ → Option (List ℕ) → Option (List ℕ) → Option (List ℕ) → DeskState S → DeskState S → ReplyForm
        → Option Unanswered → Type 0
    CutOffBy base remaining before after old new form None =
        (reply : Reply) × HasAnswer remaining old new (Ok reply) × AppendsBeginning before after (reply_bytes base reply form.head_only)
    CutOffBy base remaining before after old new form (Some why) =
        Fails remaining old new why × AppendsBeginning before after (fault_bytes base (index_for why form) form.head_only)

    -- how what was cut off is written is the input's, too
    pub record IsCutOff (base : List ℕ) (remaining before after : Option (List ℕ)) (old new : DeskState S) : Type 0 where
      pub form : ReplyForm
      pub formed : IfSome remaining (λ input. IsReplyForm input form)
      pub cause : Option Unanswered
      pub by : CutOffBy base remaining before after old new form cause

    -- where the reader fails nothing is done; where the writer fails the desk is as its answer left it, and what was written begins its reply
    abbrev pub Breaks : List ℕ → Option (List ℕ) → Option (List ℕ) → Option (List ℕ) → DeskState S → DeskState S → IoFault → Type 0
    Breaks base remaining before after old new iofault.Read = (new ≡ old) × Keeps before after
    Breaks base remaining before after old new iofault.Write = IsCutOff base remaining before after old new

    -- ---- steps

    -- the request that was read had this answer
    pub record ReadAnswer (read : Result Request AllocError) (old new : DeskState S) (result : Result Reply DeskFault) : Type 0 where
      pub request : Request
      pub is_read : read ≡ Ok request
      pub responds : Responds old request result new

    -- the text is that of the reply to the request that was read, and the summary is the reply's
    abbrev pub IsReplyTo : List ℕ → Result Request AllocError → Bool → List ℕ → ReplySummary → DeskState S → DeskState S → Type 0
    IsReplyTo base read head_only text summary old new =
        (reply : Reply) × ReadAnswer read old new (Ok reply) × (text ≡ reply_bytes base reply head_only) × IsSummaryOf base reply summary

    -- why there is no text
    abbrev pub LacksText : Result Request AllocError → Unanswered → DeskState S → DeskState S → Type 0
    LacksText read (cause.Desk why) old new = ReadAnswer read old new (Err why)
    LacksText read cause.Reading old new = new ≡ old
    LacksText read cause.Text old new = (reply : Reply) × ReadAnswer read old new (Ok reply)

    -- why there is no reply
    abbrev pub LacksReply : Request → Unanswered → DeskState S → DeskState S → Type 0
    LacksReply q (cause.Desk why) old new = Responds old q (Err why) new
    LacksReply q cause.Reading old new = new ≡ old
    LacksReply q cause.Text old new = ⊥
