-- The JSON documents of replies (RFC 8555, 7.1), by the rows that they show.
use Rattle.std.specs.Prelude.{ℕ, List, [], ◌∷◌, ◌++◌, map, Bool, false, true, not, ◌&&◌, ◌==◌, Option, Some, None, is_some, if◌then◌else◌, bytes_eq, codes}
use Rattle.std.specs.Prelude.{decimal}
use Rattle.std.specs.List.{filter, flat_map, slice_split}
use Rattle.serde_json.specs.Data.{unsigned, Data, boolean, number, string}
use Rattle.desk_model.specs.Tokens.{base64url, token_text, authorization_of, dns_value_of}
use Rattle.desk_model.specs.Entry.{Outcome, good, incorrect_response, connection, dns}
use Rattle.desk_model.specs.Authorization.{Kind, http_01, dns_01, Answer, Report, is_good, is_pending}
use Rattle.desk_model.specs.Tables.{Tables, AccountRow, ChallengeRow, AuthorizationRow, OrderRow}
use Rattle.desk_model.specs.{Json.document, Json.list, Json.when, Terms.Terms, Name.Name, Moment.moment_text, Facts.outcome_text, Legal.is_processing_challenge}
use Rattle.desk_model.specs.{Names.dns_type, Names.shown_name, Refusals.error_type, Refusals.refusal_of, Order.DatedBytes, Order.DatedProblem}
use Rattle.desk_model.specs.{Order.is_processing, Derived.authorization_numbered, Derived.numbers_of, declared.status.AccountStatus.AccountStatus}
use Rattle.desk_model.specs.{declared.status.AuthzStatus.AuthzStatus, declared.status.ChallengeStatus.ChallengeStatus, declared.status.OrderStatus.OrderStatus}
use Rattle.desk_model.specs.declared.refusal.Refusal.TheVariants as refusal
use Rattle.desk_model.specs.declared.status.AccountStatus.TheVariants as account
use Rattle.desk_model.specs.declared.status.AuthzStatus.TheVariants as authz
use Rattle.desk_model.specs.declared.status.ChallengeStatus.TheVariants as chall
use Rattle.desk_model.specs.declared.status.OrderStatus.TheVariants as order

-- ---- statuses and kinds as RFC 8555 spells them

abbrev pub account_status_text : AccountStatus → List ℕ
account_status_text status = elim status [ account.Valid ↦ codes "valid" | account.Deactivated ↦ codes "deactivated" | account.Revoked ↦ codes "revoked" ]

abbrev pub authorization_status_text : AuthzStatus → List ℕ
authorization_status_text status =
    elim status [
      | authz.Pending ↦ codes "pending"
      | authz.Valid ↦ codes "valid"
      | authz.Invalid ↦ codes "invalid"
      | authz.Deactivated ↦ codes "deactivated"
      | authz.Expired ↦ codes "expired"
      | authz.Revoked ↦ codes "revoked"
    ]

abbrev pub challenge_status_text : ChallengeStatus → List ℕ
challenge_status_text status =
    elim status [ chall.Pending ↦ codes "pending" | chall.Processing ↦ codes "processing" | chall.Valid ↦ codes "valid" | chall.Invalid ↦ codes "invalid" ]

abbrev pub order_status_text : OrderStatus → List ℕ
order_status_text status =
    elim status [
      | order.Pending ↦ codes "pending"
      | order.Ready ↦ codes "ready"
      | order.Processing ↦ codes "processing"
      | order.Valid ↦ codes "valid"
      | order.Invalid ↦ codes "invalid"
    ]

abbrev pub kind_text : Kind → List ℕ
kind_text http_01 = codes "http-01"
kind_text dns_01 = codes "dns-01"

-- ---- URLs: the base and a path

abbrev pub url : Terms → List ℕ → List ℕ
url t path = t.base ++ path

abbrev pub account_url : Terms → ℕ → List ℕ
account_url t n = t.base ++ (codes "/account/" ++ decimal n)

abbrev pub orders_url : Terms → ℕ → List ℕ
orders_url t n = account_url t n ++ codes "/orders"

abbrev pub order_url : Terms → ℕ → List ℕ
order_url t n = t.base ++ (codes "/order/" ++ decimal n)

abbrev pub finalize_url : Terms → ℕ → List ℕ
finalize_url t n = order_url t n ++ codes "/finalize"

abbrev pub certificate_url : Terms → ℕ → List ℕ
certificate_url t n = t.base ++ (codes "/cert/" ++ decimal n)

abbrev pub authorization_url : Terms → ℕ → List ℕ
authorization_url t n = t.base ++ (codes "/authz/" ++ decimal n)

abbrev pub challenge_url : Terms → ℕ → List ℕ
challenge_url t n = t.base ++ (codes "/chall/" ++ decimal n)

-- ---- documents

-- the directory (7.1.1)
abbrev pub directory : Terms → Data
directory t =
    document (
    (codes "keyChange", string (url t (codes "/key-change")))
    ∷ (codes "newAccount", string (url t (codes "/new-account")))
    ∷ (codes "newNonce", string (url t (codes "/new-nonce")))
    ∷ (codes "newOrder", string (url t (codes "/new-order")))
    ∷ []
    )

-- an account (7.1.2)
abbrev pub account_document : Terms → AccountRow → Data
account_document t a =
    document (
    (codes "contact", list (map string a.contacts))
    ∷ (codes "orders", string (orders_url t a.number))
    ∷ (codes "status", string (account_status_text a.status))
    ∷ []
    )

-- an identifier (7.1.3)
abbrev pub identifier : List ℕ → Data
identifier value = document ((codes "type", string dns_type) ∷ (codes "value", string value) ∷ [])

-- an error that is kept with an object (6.7)
abbrev pub error : (kind detail : List ℕ) (status : ℕ) → Data
error kind detail status =
    document (
    (codes "detail", string detail)
    ∷ (codes "status", number (unsigned status))
    ∷ (codes "type", string (error_type kind))
    ∷ []
    )

-- the status of serverInternal, else that of badCSR
abbrev pub problem_status : List ℕ → ℕ
problem_status kind =
    if bytes_eq kind (refusal_of refusal.ServerInternal).error_type then (refusal_of refusal.ServerInternal).status
    else (refusal_of refusal.BadCsr).status

abbrev pub order_error : Option DatedProblem → List (List ℕ × Data)
order_error None = []
order_error (Some f) = (codes "error", error f.problem.kind f.problem.detail (problem_status f.problem.kind)) ∷ []

abbrev pub and_row : Option AuthorizationRow → List AuthorizationRow → List AuthorizationRow
and_row None rest = rest
and_row (Some row) rest = row ∷ rest

-- the rows of the authorizations of these numbers
abbrev pub rows_of : List AuthorizationRow → List ℕ → List AuthorizationRow
rows_of rows [] = []
rows_of rows (n ∷ ns) = and_row (authorization_numbered n rows) (rows_of rows ns)

-- the authorizations that the order lists, in their places
abbrev pub listed_rows : Tables → OrderRow → List AuthorizationRow
listed_rows T o = rows_of T.authorizations (numbers_of o.listed)

-- an order whose listed authorizations have these names (7.1.3)
abbrev pub order_with_names : Terms → List Name → OrderRow → Data
order_with_names t names o =
    document (
    (codes "authorizations", list (map (λ n. string (authorization_url t n)) (numbers_of o.listed)))
    ∷ (when (is_some o.certified) (codes "certificate", string (certificate_url t o.number))
    ++ (order_error o.failed
    ++ (codes "expires", string (moment_text o.expires))
    ∷ (codes "finalize", string (finalize_url t o.number))
    ∷ (codes "identifiers", list (map (λ n. identifier (shown_name n)) names))
    ∷ (codes "status", string (order_status_text o.status))
    ∷ []))
    )

-- an order of these tables
abbrev pub order_document : Tables → OrderRow → Data
order_document T o = order_with_names T.meta.policy (map (λ a. a.name) (listed_rows T o)) o

-- the orders of an account that are not invalid (7.1.2.1)
abbrev pub is_listed : ℕ → OrderRow → Bool
is_listed account o = (o.account == account) && elim o.status [ order.Invalid ↦ false | _ ↦ true ]

abbrev pub orders_document : Tables → ℕ → Data
orders_document T account =
    document ((codes "orders", list (map (λ o. string (order_url T.meta.policy o.number)) (filter (is_listed account) T.orders))) ∷ [])

-- the text for people of the error that a report shows
abbrev pub outcome_detail : Outcome → List ℕ
outcome_detail good = []
outcome_detail incorrect_response = codes "the response did not match"
outcome_detail connection = codes "the validator could not connect"
outcome_detail dns = codes "the validator found no records"

-- the HTTP status of that error
abbrev pub outcome_status : Outcome → ℕ
outcome_status good = 200
outcome_status incorrect_response = 403
outcome_status connection = 400
outcome_status dns = 400

-- a good report shows no error
abbrev pub report_error : Outcome → List (List ℕ × Data)
report_error outcome =
    when (not (is_good outcome)) (codes "error", error (outcome_text outcome) (outcome_detail outcome) (outcome_status outcome))

abbrev pub error_of : Option Report → List (List ℕ × Data)
error_of None = []
error_of (Some r) = report_error r.outcome

abbrev pub validated_by : Outcome → ℕ → List (List ℕ × Data)
validated_by good date = (codes "validated", string (moment_text date)) ∷ []
validated_by _ date = []

abbrev pub validated : Option Report → List (List ℕ × Data)
validated None = []
validated (Some r) = validated_by r.outcome r.date

-- a challenge (8)
abbrev pub challenge_document : Terms → ChallengeRow → Data
challenge_document t c =
    document (
    error_of c.reported
    ++ (codes "status", string (challenge_status_text c.status))
    ∷ (codes "token", string (token_text c.token))
    ∷ (codes "type", string (kind_text c.kind))
    ∷ (codes "url", string (challenge_url t c.number))
    ∷ validated c.reported
    )

abbrev pub or_all : List ChallengeRow → List ChallengeRow → List ChallengeRow
or_all [] all = all
or_all (c ∷ cs) all = c ∷ cs

-- the challenge that was reported, if one was; else all
abbrev pub shown_challenges : List ChallengeRow → List ChallengeRow
shown_challenges rows = or_all (filter (λ c. is_some c.reported) rows) rows

-- an authorization (7.1.4)
abbrev pub authorization_document : Terms → AuthorizationRow → Data
authorization_document t a =
    document (
    (codes "challenges", list (map (challenge_document t) (shown_challenges a.challenges)))
    ∷ (codes "expires", string (moment_text a.expires))
    ∷ (codes "identifier", identifier a.name.base)
    ∷ (codes "status", string (authorization_status_text a.status))
    ∷ when a.name.wildcard (codes "wildcard", boolean true)
    )

-- ---- what waits for the validator and the signing office

-- the thumbprint of the key under which a challenge was answered, empty where it was not
abbrev pub answer_thumb : Option Answer → List ℕ
answer_thumb None = []
answer_thumb (Some a) = a.thumb

abbrev pub expected_by : Kind → List ℕ → List ℕ
expected_by http_01 authorization = authorization
expected_by dns_01 authorization = dns_value_of authorization

-- what the validator has to find for a challenge (8.3, 8.4)
abbrev pub expected : ChallengeRow → List ℕ
expected c = expected_by c.kind (authorization_of (token_text c.token) (answer_thumb c.answered))

abbrev pub work_document : AuthorizationRow → ChallengeRow → Data
work_document a c =
    document (
    (codes "challenge", number (unsigned c.number))
    ∷ (codes "expected", string (expected c))
    ∷ (codes "name", string a.name.base)
    ∷ (codes "token", string (token_text c.token))
    ∷ (codes "type", string (kind_text c.kind))
    ∷ []
    )

-- the challenges of an authorization that wait for the validator
abbrev pub work_of : AuthorizationRow → List Data
work_of a =
    if is_pending a.status then map (work_document a) (filter (λ c. is_processing_challenge c.status) a.challenges)
    else []

abbrev pub challenge_work : Tables → Data
challenge_work T = document ((codes "challenges", list (flat_map work_of T.authorizations)) ∷ [])

abbrev pub bytes_of : Option DatedBytes → List ℕ
bytes_of None = []
bytes_of (Some k) = k.bytes

abbrev pub order_work_document : Tables → OrderRow → Data
order_work_document T o =
    document (
    (codes "csr", string (base64url (bytes_of o.finalized)))
    ∷ (codes "names", list (map (λ a. string (shown_name a.name)) (listed_rows T o)))
    ∷ (codes "order", number (unsigned o.number))
    ∷ []
    )

abbrev pub order_work : Tables → Data
order_work T = document ((codes "orders", list (map (order_work_document T) (filter (λ o. is_processing o.status) T.orders))) ∷ [])

-- the members of a canonical key text, whose names and values stand between quotation marks
abbrev pub key_members : List (List ℕ) → List (List ℕ × Data)
key_members (before ∷ name ∷ between ∷ value ∷ rest) = (name, string value) ∷ key_members rest
key_members _ = []

-- the key of an account, as the object that its canonical text spells (RFC 7638, 3)
abbrev pub key_document : List ℕ → Data
key_document text = document (key_members (slice_split (λ c. c == 34) text))
