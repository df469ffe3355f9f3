-- What the bytes of a request ask, or how the request is refused.
use Rattle.std.specs.Prelude.{◌≡◌, ◌<◌, ◌≤◌, ℕ, true, false, List, take, length, map, Some, None, codes, bytes_eq}
use Rattle.httparse.specs.{Grammar.RequestHead, Spans.name_and_value}
use Rattle.desk_model.specs.declared.call.Ask.{Ask}
use Rattle.desk_model.specs.declared.refusal.Refusal.TheVariants as refusal
use Rattle.desk_model.specs.declared.reply.Allow.TheVariants as allow
use Rattle.http_routes.specs.Request.{IsAskIn, IsLookIn, IsServed, IsUnserved, refused_request}
use Rattle.http_routes.specs.Routes.{has_index}
use Rattle.http_routes.specs.declared.{looked.Looked.Looked, request.Request.Request, request.RequestRefusal.RequestRefusal, routes.Resource.Resource}
use Rattle.http_routes.specs.declared.request.Request.TheVariants as request
use Rattle.http_wire.specs.{Framing.framing_for, declared.call.ReplyForm.ReplyForm, Head.BeginsWith, Head.HasNoHead, Head.IsMalformed, Head.IsTooLarge}
use Rattle.http_wire.specs.declared.body.Framing.TheVariants as frame

-- what a request asks by its method, its path, its fields and what follows them, or how it is refused:
-- the path is looked at first, then the method, the fields, the length of the body and the body
pub data IsRequestWith (method path : List ℕ) (fields : List (List ℕ × List ℕ)) (rest : List ℕ) : Request → Type 0 where
  unserved : (why : RequestRefusal) → ((r : Resource) → IsServed method path r → ⊥) → IsUnserved path why
      → IsRequestWith method path fields rest (request.Refused why)
  ill_framed : (r : Resource) → IsServed method path r → framing_for r fields ≡ frame.Malformed
      → IsRequestWith method path fields rest (request.Refused (refused_request refusal.Malformed allow.No (has_index path)))
  too_large : (r : Resource) → IsServed method path r → framing_for r fields ≡ frame.TooLarge
      → IsRequestWith method path fields rest (request.Refused (refused_request refusal.TooLarge allow.No (has_index path)))
  cut_short : (r : Resource) (n : ℕ) → IsServed method path r → framing_for r fields ≡ frame.Takes n → length rest < n
      → IsRequestWith method path fields rest (request.Refused (refused_request refusal.Malformed allow.No (has_index path)))
  unread : (r : Resource) (n : ℕ) → IsServed method path r → framing_for r fields ≡ frame.Takes n → n ≤ length rest
      → IsLookIn r (take n rest) None → IsAskIn r method (take n rest) None
      → IsRequestWith method path fields rest (request.Refused (refused_request refusal.Malformed allow.No (has_index path)))
  asked : (r : Resource) (n : ℕ) (what : Ask) → IsServed method path r → framing_for r fields ≡ frame.Takes n → n ≤ length rest
      → IsAskIn r method (take n rest) (Some what)
      → IsRequestWith method path fields rest (request.Asks what)
  looked : (r : Resource) (n : ℕ) (l : Looked) → IsServed method path r → framing_for r fields ≡ frame.Takes n → n ≤ length rest
      → IsLookIn r (take n rest) (Some l)
      → IsRequestWith method path fields rest (request.Looks l)

-- what the input asks, or how it is refused
pub data Spells (input : List ℕ) : Request → Type 0 where
  malformed : IsMalformed input → Spells input (request.Refused (refused_request refusal.Malformed allow.No true))
  long_head : IsTooLarge input → Spells input (request.Refused (refused_request refusal.TooLarge allow.No true))
  headed : (h : RequestHead) (rest : List ℕ) (r : Request) → BeginsWith input h rest
      → IsRequestWith h.method h.target (map name_and_value h.fields) rest r → Spells input r

-- how the reply to a request with this head is written: HEAD is answered by the head alone (RFC 9110, 9.3.2)
abbrev pub form_by : (method path : List ℕ) → ReplyForm
form_by method path = record { head_only = bytes_eq method (codes "HEAD"); index = has_index path }

-- how the reply to the input is written
pub data IsReplyForm (input : List ℕ) : ReplyForm → Type 0 where
  unread : HasNoHead input → IsReplyForm input (record { head_only = false; index = true })
  read : (h : RequestHead) (rest : List ℕ) → BeginsWith input h rest → IsReplyForm input (form_by h.method h.target)
