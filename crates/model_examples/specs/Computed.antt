-- What a decision says, as the bytes that a client gets, and what it records.
use Rattle.std.specs.Prelude.{◌≡◌, ℕ, List, [], ◌∷◌, Bool, true, Option, Some, None}
use Rattle.serde_json.specs.Written.{compact_text}
use Rattle.model_examples.specs.{Entries.Entry, Entries.History, Entries.issued, Entries.spent, Calls.nonce_two, Calls.zeros}
use Rattle.desk_model.specs.Decide.{Decision, decide}
use Rattle.desk_model.specs.{Refusals.problem_document, declared.call.Call.Call, declared.reply.Reply.Reply, declared.reply.Body.Body}
use Rattle.desk_model.specs.declared.reply.Body.TheVariants as body

-- the body of a reply, by its bytes; of a problem also whether the link to the directory stands
pub data Content : Type 0 where
  Nothing : Content
  Json : List ℕ → Content
  Problem : (index : Bool) → List ℕ → Content
  Certificate : List ℕ → Content

-- a reply, by what a client gets
pub record Answer : Type 0 where
  pub status : ℕ
  pub location : Option (List ℕ)
  pub up : Option (List ℕ)
  pub nonce : Option (List ℕ)
  pub content : Content

-- an answer and the entries that are recorded with it
pub record Computed : Type 0 where
  pub answer : Answer
  pub entries : List Entry

-- the content of a body
abbrev pub content_of : Body → Content
content_of body.Empty = Nothing
content_of (body.Json d) = Json (compact_text d)
content_of (body.Problem p) = Problem p.index (compact_text (problem_document p))
content_of (body.Certificate bytes) = Certificate bytes

-- the answer that a reply gives
abbrev pub answer_of : Reply → Answer
answer_of r = record { status = r.status; location = r.location; up = r.up; nonce = r.nonce; content = content_of r.body }

-- what a decision comes to
abbrev pub computed : Decision → Computed
computed d = record { answer = answer_of d.reply; entries = d.entries }

-- after this history the call is answered so, and these entries are recorded
abbrev pub Gives : History → Call → Answer → List Entry → Type 0
Gives F call answer entries = computed (decide F call) ≡ (record { answer = answer; entries = entries })

-- ---- answers

-- a status and a body
abbrev pub plain : ℕ → Content → Answer
plain status content = record { status = status; location = None; up = None; nonce = None; content = content }

-- with a Location
abbrev pub located : List ℕ → Answer → Answer
located location a = record a { location = Some location }

-- with a link to the authorization
abbrev pub below : List ℕ → Answer → Answer
below up a = record a { up = Some up }

-- with a fresh nonce
abbrev pub renewed : List ℕ → Answer → Answer
renewed nonce a = record a { nonce = Some nonce }

-- a document, to a request without a nonce
abbrev pub shows : List ℕ → Answer
shows text = plain 200 (Json text)

-- a refusal of a signed request, with this fresh nonce
abbrev pub refuses : ℕ → List ℕ → List ℕ → Answer
refuses status text nonce = renewed nonce (plain status (Problem true text))

-- ---- requests with the first nonce, which is spent, and a fresh one issued

-- such a request is answered so, and these entries follow
abbrev pub Answers : History → Call → Answer → List Entry → Type 0
Answers F call answer entries = Gives F call (renewed nonce_two answer) (spent 1 ∷ issued (zeros 16) ∷ entries)

-- it is answered with this document, and nothing follows
abbrev pub Reads : History → Call → List ℕ → Type 0
Reads F call text = Answers F call (shows text) []

-- it is refused with this document
abbrev pub Refuses : History → Call → ℕ → List ℕ → Type 0
Refuses F call status text = Answers F call (plain status (Problem true text)) []
