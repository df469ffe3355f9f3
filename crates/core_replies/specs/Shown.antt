-- What documents show, where their moments have a text, and members that are put one by one.
use Rattle.std.specs.Prelude.{codes, ℕ, ◌≤◌, Bool, true, not, ◌||◌, is_some, List, [], ◌∷◌, ◌++◌, decimal, map, Option, Some, None, if◌then◌else◌}
use Rattle.std.specs.List.{filter}
use Rattle.serde_json.specs.Data.{Data, Members, boolean, number, put, string, unsigned}
use Rattle.desk_model.specs.Document.{work_document, account_status_text, authorization_status_text, authorization_url, bytes_of, certificate_url}
use Rattle.desk_model.specs.Document.{challenge_document, challenge_status_text, challenge_url, error_of, expected, finalize_url, identifier, is_listed}
use Rattle.desk_model.specs.Document.{kind_text, listed_rows, order_error, order_status_text, order_url, order_work_document, orders_url, shown_challenges, url}
use Rattle.desk_model.specs.Document.{validated}
use Rattle.desk_model.specs.{Limits.last_end, Tables.Tables, Authorization.is_pending, Order.is_processing, Legal.is_processing_challenge, Kept.EachOf}
use Rattle.desk_model.specs.{Derived.numbers_of, Moment.moment_text, Name.Name, Refusals.error_type, Terms.Terms, declared.objects.Report.Report}
use Rattle.desk_model.specs.{Effect.swept_authorization, Effect.swept_order, Json.list, Json.when, Names.shown_name, Tokens.base64url, Tokens.token_text}
use Rattle.desk_model.specs.declared.rows.{ChallengeRow.ChallengeRow, AuthorizationRow.AuthorizationRow, OrderRow.OrderRow, AccountRow.AccountRow}
use Rattle.moments.specs.Capped.{capped}

-- ---- moments: one past the last that has a text is shown as the last

abbrev pub capped_report : Option Report → Option Report
capped_report None = None
capped_report (Some r) = Some (record r { date = capped r.date })

abbrev pub capped_challenge : ChallengeRow → ChallengeRow
capped_challenge c = record c { reported = capped_report c.reported }

abbrev pub capped_authorization : AuthorizationRow → AuthorizationRow
capped_authorization a = record a { expires = capped a.expires; challenges = map capped_challenge a.challenges }

abbrev pub capped_order : OrderRow → OrderRow
capped_order o = record o { expires = capped o.expires }

-- the date of a report, if there is one, has a text
abbrev pub HasDatedReport : Option Report → Type 0
HasDatedReport None = Unit {0}
HasDatedReport (Some r) = r.date ≤ last_end

-- each moment that may be shown of an authorization has a text
pub record HasMoments (a : AuthorizationRow) : Type 0 where
  pub ends : a.expires ≤ last_end
  pub reports : EachOf (λ c. HasDatedReport c.reported) a.challenges

-- ---- URLs

-- that of the object of a number, behind the path of its kind
abbrev pub numbered_url : Terms → (path : List ℕ) → ℕ → List ℕ
numbered_url t path n = t.base ++ (path ++ decimal n)

-- ---- members

-- these members put one by one among others
abbrev pub with_members : List (List ℕ × Data) → Members → Members
with_members [] others = others
with_members (m ∷ ms) others = with_members ms (put m.0 m.1 others)

abbrev pub directory_members : Terms → List (List ℕ × Data)
directory_members t =
    (codes "keyChange", string (url t (codes "/key-change")))
    ∷ (codes "newAccount", string (url t (codes "/new-account")))
    ∷ (codes "newNonce", string (url t (codes "/new-nonce")))
    ∷ (codes "newOrder", string (url t (codes "/new-order")))
    ∷ []

abbrev pub account_members : Terms → AccountRow → List (List ℕ × Data)
account_members t a =
    (codes "contact", list (map string a.contacts))
    ∷ (codes "orders", string (orders_url t a.number))
    ∷ (codes "status", string (account_status_text a.status))
    ∷ []

abbrev pub error_members : (kind detail : List ℕ) (status : ℕ) → List (List ℕ × Data)
error_members kind detail status =
    (codes "detail", string detail) ∷ (codes "status", number (unsigned status)) ∷ (codes "type", string (error_type kind)) ∷ []

-- of a challenge
abbrev pub challenge_members : Terms → ChallengeRow → List (List ℕ × Data)
challenge_members t c =
    error_of c.reported
    ++ (codes "status", string (challenge_status_text c.status))
    ∷ (codes "token", string (token_text c.token))
    ∷ (codes "type", string (kind_text c.kind))
    ∷ (codes "url", string (challenge_url t c.number))
    ∷ validated c.reported

-- of an authorization
abbrev pub authorization_members : Terms → AuthorizationRow → List (List ℕ × Data)
authorization_members t a =
    (codes "challenges", list (map (challenge_document t) (shown_challenges a.challenges)))
    ∷ (codes "expires", string (moment_text a.expires))
    ∷ (codes "identifier", identifier a.name.base)
    ∷ (codes "status", string (authorization_status_text a.status))
    ∷ when a.name.wildcard (codes "wildcard", boolean true)

-- of an order whose authorizations have these names
abbrev pub order_members : Terms → List Name → OrderRow → List (List ℕ × Data)
order_members t names o =
    (codes "authorizations", list (map (λ n. string (authorization_url t n)) (numbers_of o.listed)))
    ∷ (when (is_some o.certified) (codes "certificate", string (certificate_url t o.number))
    ++ (order_error o.failed
    ++ (codes "expires", string (moment_text o.expires))
    ∷ (codes "finalize", string (finalize_url t o.number))
    ∷ (codes "identifiers", list (map (λ n. identifier (shown_name n)) names))
    ∷ (codes "status", string (order_status_text o.status))
    ∷ []))

-- ---- what an item of a list shows

-- a challenge is shown if it was reported, or if none was
abbrev pub shown_challenge : Terms → (reported : Bool) → ChallengeRow → List Data
shown_challenge t reported c = if not reported || is_some c.reported then challenge_document t (capped_challenge c) ∷ [] else []

-- the URL of an order at a moment, where it is an account's and not invalid
abbrev pub listed_order : Tables → (m account : ℕ) → OrderRow → List Data
listed_order T m account o = if is_listed account (swept_order m T.authorizations o) then string (order_url T.meta.policy o.number) ∷ [] else []

-- the name of a listed authorization, where there is one
abbrev pub listed_name : Option AuthorizationRow → List Data
listed_name None = []
listed_name (Some a) = string (shown_name a.name) ∷ []

-- ---- work

-- a challenge that waits for the validator, if its authorization is pending
abbrev pub answered : AuthorizationRow → ChallengeRow → List Data
answered a c = if is_processing_challenge c.status then work_document a c ∷ [] else []

-- an order that waits for the signing office at a moment
abbrev pub order_work_at : ℕ → Tables → OrderRow → List Data
order_work_at m T o = if is_processing (swept_order m T.authorizations o).status then order_work_document T o ∷ [] else []

abbrev pub work_members : AuthorizationRow → ChallengeRow → List (List ℕ × Data)
work_members a c =
    (codes "challenge", number (unsigned c.number))
    ∷ (codes "expected", string (expected c))
    ∷ (codes "name", string a.name.base)
    ∷ (codes "token", string (token_text c.token))
    ∷ (codes "type", string (kind_text c.kind))
    ∷ []

abbrev pub order_work_members : Tables → OrderRow → List (List ℕ × Data)
order_work_members T o =
    (codes "csr", string (base64url (bytes_of o.finalized)))
    ∷ (codes "names", list (map (λ a. string (shown_name a.name)) (listed_rows T o)))
    ∷ (codes "order", number (unsigned o.number))
    ∷ []

-- the challenges of an authorization that wait for the validator at a moment
abbrev pub work_at : ℕ → AuthorizationRow → List Data
work_at m a =
    if is_pending (swept_authorization m a).status then map (work_document a) (filter (λ c. is_processing_challenge c.status) a.challenges)
    else []
