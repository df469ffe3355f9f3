-- The refusals: their numbers, error types (RFC 8555, 6.7), HTTP statuses and texts.
use Rattle.std.specs.Prelude.{ℕ, List, [], ◌∷◌, ◌++◌, map, codes}
use Rattle.serde_json.specs.Data.{unsigned, Data, string}
use Rattle.serde_json.specs.Data as json
use Rattle.desk_model.specs.{Json.document, Json.list, declared.reply.Problem.Problem, declared.reply.Subproblem.Subproblem}
use Rattle.desk_model.specs.declared.refusal.Refusal.TheVariants as refusal
pub use Rattle.desk_model.specs.declared.refusal.Refusal.{Refusal}

-- what is said of a refusal
pub record RefusalRow : Type 0 where
  pub number : ℕ
  pub error_type : List ℕ
  pub status : ℕ
  pub detail : List ℕ

abbrev pub row : ℕ → List ℕ → ℕ → List ℕ → RefusalRow
row number error_type status detail = record { number = number; error_type = error_type; status = status; detail = detail }

-- the table of refusals
abbrev pub refusal_of : Refusal → RefusalRow
refusal_of refusal.Malformed = row 1 (codes "malformed") 400 (codes "the request is not well formed")
refusal_of refusal.NotFound = row 2 (codes "malformed") 404 (codes "there is nothing here")
refusal_of refusal.MethodNotAllowed = row 3 (codes "malformed") 405 (codes "this method is not served here")
refusal_of refusal.BadNonce = row 4 (codes "badNonce") 400 (codes "the nonce is not open")
refusal_of refusal.BadPublicKey = row 5 (codes "badPublicKey") 400 (codes "the key is not accepted")
refusal_of refusal.AccountDoesNotExist = row 6 (codes "accountDoesNotExist") 400 (codes "no account has this key")
refusal_of refusal.Unauthorized = row 7 (codes "unauthorized") 401 (codes "the account is not valid")
refusal_of refusal.UnsupportedContact = row 8 (codes "unsupportedContact") 400 (codes "the contact scheme is not supported")
refusal_of refusal.InvalidContact = row 9 (codes "invalidContact") 400 (codes "the contact is not accepted")
refusal_of refusal.UnsupportedIdentifier = row 10 (codes "unsupportedIdentifier") 400 (codes "the identifier type is not supported")
refusal_of refusal.RejectedIdentifier = row 11 (codes "rejectedIdentifier") 400 (codes "the name is not accepted")
refusal_of refusal.OrderNotReady = row 12 (codes "orderNotReady") 403 (codes "the order is not ready")
refusal_of refusal.BadCsr = row 13 (codes "badCSR") 400 (codes "the CSR is not accepted")
refusal_of refusal.Conflict = row 14 (codes "malformed") 409 (codes "the report does not fit the records")
refusal_of refusal.ServerInternal = row 15 (codes "serverInternal") 500 (codes "the desk could not act")
refusal_of refusal.TooLarge = row 16 (codes "malformed") 413 (codes "the request is too large")
refusal_of refusal.KeyInUse = row 17 (codes "malformed") 409 (codes "the key has an account")

-- an error type, with its prefix
abbrev pub error_type : List ℕ → List ℕ
error_type name = codes "urn:ietf:params:acme:error:" ++ name

-- the document of one refused identifier (RFC 8555, 6.7.1)
abbrev pub subproblem_document : Subproblem → Data
subproblem_document s =
    document (
    (codes "detail", string (refusal_of s.refusal).detail)
    ∷ (codes "identifier", document ((codes "type", string s.kind) ∷ (codes "value", string s.value) ∷ []))
    ∷ (codes "type", string (error_type (refusal_of s.refusal).error_type))
    ∷ []
    )

-- the refused identifiers, where there are any
abbrev pub subproblem_members : List Subproblem → List (List ℕ × Data)
subproblem_members [] = []
subproblem_members (s ∷ ss) = (codes "subproblems", list (map subproblem_document (s ∷ ss))) ∷ []

-- the document of a refusal (RFC 7807)
abbrev pub problem_document : Problem → Data
problem_document p =
    document (
    (codes "detail", string (refusal_of p.refusal).detail)
    ∷ (codes "status", json.number (unsigned (refusal_of p.refusal).status))
    ∷ (subproblem_members p.subproblems
    ++ (codes "type", string (error_type (refusal_of p.refusal).error_type))
    ∷ [])
    )
