-- From a plan and a body to the request.
use Rattle.std.proofs.Common.{◌≡◌, ℕ, List, ◌++◌, Option, Some, None, Result, Ok, Err, sym, subst}
use Rattle.std.specs.Prelude.{IfOk, IfSome, option_map}
use Rattle.http_routes.specs.Request.{IsAskIn, IsLookIn, IsServed}
use Rattle.http_routes.specs.{Routes.has_index, declared.request.Request.Request, declared.routes.Resource.Resource}
use Rattle.http_routes.specs.declared.request.Request.TheVariants as request
use Rattle.http_wire.specs.Spelled.{IsRequestWith, asked, cut_short, looked, unread}
use Rattle.http_wire.specs.{Framing.framing_for, declared.call.ParsedRequest.ParsedRequest, ParsedRequest.IsAnswerTo, ParsedRequest.IsBody}
use Rattle.http_wire.specs.declared.body.Framing.TheVariants as frame

-- what a served request asks by its body
pub request_by_body : (method path : List ℕ) (fields : List (List ℕ × List ℕ)) (rest : List ℕ) (r : Resource) (n : ℕ) (body : Option (List ℕ)) (q : Request)
    → IsServed method path r → framing_for r fields ≡ frame.Takes n → IsBody rest n body → IsAnswerTo r method (has_index path) body q
    → IsRequestWith method path fields rest q
request_by_body method path fields rest r n None q s e b a =
    let P : Request → Type 0 = λ x. IsRequestWith method path fields rest x in
    subst P (sym a) (cut_short r n s e b)
request_by_body method path fields rest r n (Some body) (request.Asks what) s e b a =
    asked r n what s e b.0 (subst (λ (x : List ℕ). IsAskIn r method x (Some what)) b.1 a)
request_by_body method path fields rest r n (Some body) (request.Refused reply) s e b a =
    rw (a.1.1) (unread r n s e b.0 (subst (λ (x : List ℕ). IsLookIn r x None) b.1 a.0) (subst (λ (x : List ℕ). IsAskIn r method x None) b.1 a.1.0))
request_by_body method path fields rest r n (Some body) (request.Looks l) s e b a =
    looked r n l s e b.0 (subst (λ (x : List ℕ). IsLookIn r x (Some l)) b.1 a)

-- the same of what the reader has left, where memory was found for what the body asks
pub request_behind : {V E : Type 0} (items : V → List ℕ) (remaining : Option (List ℕ)) (method path : List ℕ) (fields : List (List ℕ × List ℕ))
    (begun : List ℕ) (r : Resource) (n : ℕ) (body : Option V) (res : Result Request E)
    → IsServed method path r → framing_for r fields ≡ frame.Takes n
    → IfSome remaining (λ left. IsBody (begun ++ left) n (option_map items body))
    → IfOk res (λ q. IsAnswerTo r method (has_index path) (option_map items body) q)
    → IfOk res (λ q. IfSome remaining (λ left. IsRequestWith method path fields (begun ++ left) q))
request_behind items remaining method path fields begun r n body (Err x) s e b a = tt
request_behind items None method path fields begun r n body (Ok q) s e b a = tt
request_behind items (Some left) method path fields begun r n body (Ok q) s e b a =
    request_by_body method path fields (begun ++ left) r n (option_map items body) q s e b a

-- what is so whatever follows is so of what the reader has left
pub whatever_is_left : (remaining : Option (List ℕ)) (begun : List ℕ) (P : List ℕ → Type 0) → ((rest : List ℕ) → P rest)
    → IfSome remaining (λ left. P (begun ++ left))
whatever_is_left None begun P h = tt
whatever_is_left (Some left) begun P h = h (begun ++ left)

-- what was read is the request of this method, path and fields, with these bytes behind its head
abbrev pub IsReadWith : {E : Type 0} → Result ParsedRequest E → Option (List ℕ) → (method path : List ℕ) → List (List ℕ × List ℕ) → List ℕ → Type 0
IsReadWith read remaining method path fields begun =
    IfOk read (λ parsed. IfOk parsed.request (λ q. IfSome remaining (λ left. IsRequestWith method path fields (begun ++ left) q)))

-- the same of the same method, path, fields and bytes
pub read_same : {E : Type 0} (read : Result ParsedRequest E) (remaining : Option (List ℕ)) (m n p t : List ℕ) (f g : List (List ℕ × List ℕ)) (b e : List ℕ)
    → m ≡ n → p ≡ t → f ≡ g → b ≡ e → IsReadWith read remaining m p f b → IsReadWith read remaining n t g e
read_same read remaining m n p t f g b e same_method same_path same_fields same_bytes h =
    subst (λ x. IsReadWith read remaining x t g e) same_method (subst (λ x. IsReadWith read remaining m x g e) same_path
    (subst (λ x. IsReadWith read remaining m p x e) same_fields (subst (IsReadWith read remaining m p f) same_bytes h)))
