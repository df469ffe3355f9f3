-- What a request asks, by its method, its path and its body.
use Rattle.std.specs.Prelude.{◌≡◌, ℕ, Bool, true, false, List, [], codes, bytes_eq, Option, Some, None, option_map, IsUtf8, ◌⊎◌}
use Rattle.desk_model.specs.declared.{refusal.Refusal.Refusal, call.Ask.Ask, call.Signed.Signed, call.Target.Target, reply.Allow.Allow, reply.Reply.Reply}
use Rattle.desk_model.specs.declared.refusal.Refusal.TheVariants as refusal
use Rattle.desk_model.specs.declared.call.Ask.TheVariants as ask
use Rattle.desk_model.specs.declared.call.OfficeAsk.TheVariants as asks
use Rattle.desk_model.specs.declared.reply.Allow.TheVariants as allow
use Rattle.json_texts.specs.{Problems.order_problem, RefusalReplies.refusal_reply}
use Rattle.http_routes.specs.{Envelopes.Envelope, Envelopes.IsEnvelopeText, Envelopes.IsSigned, Looked.report, Offices.finding, declared.request.Place.Place}
use Rattle.http_routes.specs.{declared.request.RequestRefusal.RequestRefusal, declared.looked.Looked.Looked, declared.routes.OfficeResource.OfficeResource}
use Rattle.http_routes.specs.{declared.routes.Resource.Resource, Routes.IsResourceAt, Routes.has_index, Routes.methods_of, Routes.serves}
use Rattle.http_routes.specs.declared.looked.Looked.TheVariants as looked
use Rattle.http_routes.specs.declared.request.Place.TheVariants as place
use Rattle.http_routes.specs.declared.routes.OfficeResource.TheVariants as office
use Rattle.http_routes.specs.declared.routes.Resource.TheVariants as resource

-- ---- what is asked of a resource

-- what a signed request asks of its target: the body is its envelope, or it asks nothing (RFC 8555, 6.2)
abbrev pub IsSignedAsk : Target → List ℕ → Option Ask → Type 0
IsSignedAsk target text None = (e : Envelope) → IsEnvelopeText text e → ⊥
IsSignedAsk target text (Some what) = (e : Envelope) × (s : Signed) × IsEnvelopeText text e × IsSigned target e s × (what ≡ ask.Signed s)

-- what the validator reports of a challenge
abbrev pub IsReportAsk : ℕ → List ℕ → Option Ask → Type 0
IsReportAsk challenge text asked = asked ≡ option_map (λ found. ask.Office (asks.Report challenge found)) (finding text)

-- the certificate of an order: the bytes of the body, as they are
abbrev pub certify_ask : ℕ → List ℕ → Option Ask
certify_ask order bytes = Some (ask.Office (asks.Certify order bytes))

-- why the signing office gives an order up
abbrev pub IsFailAsk : ℕ → List ℕ → Option Ask → Type 0
IsFailAsk order text asked = asked ≡ option_map (λ problem. ask.Office (asks.FailOrder order problem)) (order_problem text)

-- what a body asks that is to be text: UTF-8, or it asks nothing
abbrev pub IsOfText : {X : Type 0} → (List ℕ → Option X → Type 0) → List ℕ → Option X → Type 0
IsOfText IsAsked body asked = (IsUtf8 body × IsAsked body asked) ⊎ ((IsUtf8 body → ⊥) × (asked ≡ None))

-- what the validator, the signing office and the operator ask; a certificate may be any bytes, and a revocation takes nothing from its body
abbrev pub IsOfficeAsk : OfficeResource → List ℕ → Option Ask → Type 0
IsOfficeAsk (office.Key account) body asked = asked ≡ Some (ask.Office (asks.KeyOf account))
IsOfficeAsk office.ChallengeWork body asked = asked ≡ Some (ask.Office asks.ChallengeWork)
IsOfficeAsk office.OrderWork body asked = asked ≡ Some (ask.Office asks.OrderWork)
IsOfficeAsk (office.Report challenge) body asked = IsOfText (IsReportAsk challenge) body asked
IsOfficeAsk (office.Certify order) body asked = asked ≡ certify_ask order body
IsOfficeAsk (office.FailOrder order) body asked = IsOfText (IsFailAsk order) body asked
IsOfficeAsk (office.RevokeAuthz authz) body asked = asked ≡ Some (ask.Office (asks.RevokeAuthz authz))
IsOfficeAsk (office.RevokeAccount account) body asked = asked ≡ Some (ask.Office (asks.RevokeAccount account))
IsOfficeAsk office.Page body asked = asked ≡ None
IsOfficeAsk office.Look body asked = asked ≡ None
IsOfficeAsk office.Metrics body asked = asked ≡ None
IsOfficeAsk office.Backup body asked = asked ≡ None

-- what a request of this method asks of a resource by the bytes of its body; None: the body is none for it
abbrev pub IsAskIn : Resource → List ℕ → List ℕ → Option Ask → Type 0
IsAskIn resource.Directory method body asked = asked ≡ Some (ask.Office asks.Directory)
IsAskIn resource.NewNonce method body asked = asked ≡ Some (ask.NewNonce (bytes_eq method (codes "HEAD")))
IsAskIn (resource.Signed target) method body asked = IsOfText (IsSignedAsk target) body asked
IsAskIn (resource.Office o) method body asked = IsOfficeAsk o body asked

-- ---- what is shown, which is no call

-- the report that a text asks for
abbrev pub IsReport : List ℕ → Option Looked → Type 0
IsReport text asked = asked ≡ report text

-- what a request asks of a resource to be shown, by the bytes of its body; None: it asks for nothing that is shown
abbrev pub IsLookIn : Resource → List ℕ → Option Looked → Type 0
IsLookIn (resource.Office office.Page) body asked = asked ≡ Some looked.Page
IsLookIn (resource.Office office.Look) body asked = IsOfText IsReport body asked
IsLookIn (resource.Office office.Metrics) body asked = asked ≡ Some looked.Metrics
IsLookIn (resource.Office office.Backup) body asked = asked ≡ Some looked.Backup
IsLookIn _ body asked = asked ≡ None

-- ---- requests

-- how a request that is no call is refused
abbrev pub refused_request : Refusal → Allow → Bool → RequestRefusal
refused_request why methods has_link = record { refusal = why; allow = methods; index = has_link }

-- how a request is refused that asks for what is not shown: as one for a path that leads nowhere
abbrev pub unshown : RequestRefusal
unshown = refused_request refusal.NotFound allow.No false

-- the reply to it: nothing is recorded, and there is no nonce
abbrev pub refused_reply : RequestRefusal → Reply
refused_reply r = refusal_reply r.refusal [] r.allow r.index

-- the path leads to the resource, and it serves the method
pub record IsServed (method path : List ℕ) (r : Resource) : Type 0 where
  pub there : IsResourceAt path r
  pub serves : serves (methods_of r) method ≡ true

-- how a request of a method that the path does not serve is refused: nothing is there, or a resource of these methods
pub data IsUnserved (path : List ℕ) : RequestRefusal → Type 0 where
  not_here : ((r : Resource) → IsResourceAt path r → ⊥)
      → IsUnserved path (refused_request refusal.NotFound allow.No (has_index path))
  not_served : (r : Resource) → IsResourceAt path r
      → IsUnserved path (refused_request refusal.MethodNotAllowed (methods_of r) (has_index path))

-- where a request of this method and path goes, or how it is refused where no resource serves it
abbrev pub IsPlace : List ℕ → List ℕ → Place → Type 0
IsPlace method path (place.Served r) = IsServed method path r
IsPlace method path (place.Unserved why) = ((r : Resource) → IsServed method path r → ⊥) × IsUnserved path why
