-- What is said to a line of a batch, by a desk over any store.
use Rattle.std.specs.Prelude.{◌≡◌, ◌⊎◌, ℕ, List, Result, Ok, Err, MatchResult}
use Rattle.desk_model.specs.declared.reply.Reply.{Reply}
use Rattle.http_routes.specs.{Lines.Spells, Lines.line_text, Request.refused_reply, Request.unshown, declared.lines.Line.Line, declared.request.Request.Request}
use Rattle.http_routes.specs.declared.request.Request.TheVariants as request
use Rattle.app_batch.specs.{LineRequests.IsRequestOf, LineRequests.call_of, declared.fault.AnswerFault.AnswerFault}
use Rattle.app_batch.specs.declared.fault.AnswerFault.TheVariants as answerfault
use Rattle.desk.specs.{Meets.Meets, State.DeskState, declared.fault.DeskFault.DeskFault}
use Rattle.store_api.specs.Sight.{Sight}

module _ {S C : Type 0} (v : Sight S C) where
  -- the reply to a line with this request: the desk's to its call, or the refusal of a request that is none
  abbrev pub RepliesTo : DeskState S → Line → Request → Reply → DeskState S → Type 0
  RepliesTo old l (request.Asks what) reply new = Meets v (call_of l what) old new (Ok reply)
  RepliesTo old l (request.Looks asked) reply new = (reply ≡ refused_reply unshown) × (new ≡ old)
  RepliesTo old l (request.Refused why) reply new = (reply ≡ refused_reply why) × (new ≡ old)

  -- the desk has no reply to the call of a line
  abbrev pub DeclinesTo : DeskState S → Line → Request → DeskFault → DeskState S → Type 0
  DeclinesTo old l (request.Asks what) why new = Meets v (call_of l what) old new (Err why)
  DeclinesTo old l (request.Looks asked) why new = ⊥
  DeclinesTo old l (request.Refused refusal) why new = ⊥

  -- the bytes spell a line, and what it asks is replied to so
  pub record Replied (old : DeskState S) (bytes : List ℕ) (reply : Reply) (new : DeskState S) : Type 0 where
    pub line : Line
    pub spells : Spells bytes line
    pub request : Request
    pub asks : IsRequestOf line request
    pub replies : RepliesTo old line request reply new

  -- the line that is said in reply
  abbrev pub Says : DeskState S → (bytes said : List ℕ) → DeskState S → Type 0
  Says old bytes said new = (reply : Reply) × Replied old bytes reply new × (said ≡ line_text reply)

  -- the bytes spell a line, and the desk declines what it asks
  pub record Declined (old : DeskState S) (bytes : List ℕ) (why : DeskFault) (new : DeskState S) : Type 0 where
    pub line : Line
    pub spells : Spells bytes line
    pub request : Request
    pub asks : IsRequestOf line request
    pub declines : DeclinesTo old line request why new

  -- nothing is said, as memory was refused: before the desk answered or after
  abbrev pub LacksMemory : DeskState S → List ℕ → DeskState S → Type 0
  LacksMemory old bytes new = (new ≡ old) ⊎ ((reply : Reply) × Replied old bytes reply new)

  -- why nothing is said: the line is no call, the desk declines the call, or memory was refused
  abbrev pub SaysNothing : DeskState S → List ℕ → AnswerFault → DeskState S → Type 0
  SaysNothing old bytes answerfault.NotACall new = ((l : Line) → Spells bytes l → ⊥) × (new ≡ old)
  SaysNothing old bytes (answerfault.Desk why) new = Declined old bytes why new
  SaysNothing old bytes answerfault.Memory new = LacksMemory old bytes new

  -- what becomes of a line: this is said to it, or nothing, and why
  abbrev pub Answered : {V : Type 0} (items : V → List ℕ) (old : DeskState S) (bytes : List ℕ) → Result V AnswerFault → DeskState S → Type 0
  Answered items old bytes result new = MatchResult result (λ said. Says old bytes (items said) new) (λ why. SaysNothing old bytes why new)
