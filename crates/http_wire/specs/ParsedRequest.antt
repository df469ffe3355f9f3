-- What was read of a request.
use Rattle.std.specs.Prelude.{◌≡◌, ◌<◌, ◌≤◌, ◌++◌, ℕ, Bool, List, take, drop, length, map, Option, Some, None, IfOk}
use Rattle.httparse.specs.{Spans.header_bytes, Spans.span_bytes, declared.spans.HeaderSpan.HeaderSpan, declared.spans.RequestSpans.RequestSpans}
use Rattle.desk_model.specs.declared.refusal.Refusal.TheVariants as refusal
use Rattle.desk_model.specs.declared.reply.Allow.TheVariants as allow
use Rattle.http_routes.specs.Request.{IsAskIn, IsLookIn, IsServed, refused_request}
use Rattle.http_routes.specs.declared.{request.Request.Request, routes.Resource.Resource}
use Rattle.http_routes.specs.declared.request.Request.TheVariants as request
use Rattle.http_wire.specs.{Framing.framing_for, declared.call.ParsedRequest.ParsedRequest, declared.call.Plan.Plan}
use Rattle.http_wire.specs.Spelled.{IsReplyForm, IsRequestWith, Spells}
use Rattle.http_wire.specs.declared.body.Framing.TheVariants as frame
use Rattle.http_wire.specs.declared.call.Plan.TheVariants as plan

-- the request of the input, unless memory was refused, and how its reply is written
pub record Parses (input : List ℕ) (parsed : ParsedRequest) : Type 0 where
  pub form : IsReplyForm input parsed.form
  pub request : IfOk parsed.request (λ r. Spells input r)

-- ---- steps

-- what is known before the body is read
abbrev pub IsPlan : (method path : List ℕ) → List (List ℕ × List ℕ) → Plan → Type 0
IsPlan method path fields (plan.Refused why) = (rest : List ℕ) → IsRequestWith method path fields rest (request.Refused why)
IsPlan method path fields (plan.Takes r n) = IsServed method path r × (framing_for r fields ≡ frame.Takes n)

-- the first n bytes of the rest, or none where it has fewer
abbrev pub IsBody : List ℕ → ℕ → Option (List ℕ) → Type 0
IsBody rest n None = length rest < n
IsBody rest n (Some body) = (n ≤ length rest) × (body ≡ take n rest)

-- what a body asks, or that it is refused
abbrev pub IsAnswerTo : Resource → List ℕ → Bool → Option (List ℕ) → Request → Type 0
IsAnswerTo r method index None q = q ≡ request.Refused (refused_request refusal.Malformed allow.No index)
IsAnswerTo r method index (Some body) (request.Asks what) = IsAskIn r method body (Some what)
IsAnswerTo r method index (Some body) (request.Looks l) = IsLookIn r body (Some l)
IsAnswerTo r method index (Some body) (request.Refused why) =
    IsLookIn r body None × (IsAskIn r method body None × (why ≡ refused_request refusal.Malformed allow.No index))

-- the request whose head lies at these spans, with what the reader has left behind the bytes
abbrev pub IsRequestAt : List ℕ → List HeaderSpan → RequestSpans → List ℕ → Request → Type 0
IsRequestAt bytes headers spans left r =
    IsRequestWith (span_bytes bytes spans.method) (span_bytes bytes spans.path) (map (header_bytes bytes) (take spans.headers headers))
    (drop spans.len bytes ++ left) r
