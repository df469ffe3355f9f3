-- Statuses over time: validation, expiry, deactivation and what orders make of them (RFC 8555, 7.1.6).
use Rattle.std.specs.Prelude.{ℕ, List, [], ◌∷◌, false, codes}
use Rattle.desk_model.specs.declared.{call.Call.Call, call.Target.Target}
use Rattle.desk_model.specs.declared.call.Ask.TheVariants as ask
use Rattle.desk_model.specs.declared.call.OfficeAsk.TheVariants as office
use Rattle.desk_model.specs.declared.call.Finding.TheVariants as found
use Rattle.desk_model.specs.declared.call.FetchError.TheVariants as fetch
use Rattle.desk_model.specs.declared.call.Target.TheVariants as to
use Rattle.model_examples.specs.Computed.{Gives, plain, renewed, shows, located, below, Json, Problem, Certificate, Answers, Reads, Refuses}
use Rattle.model_examples.specs.Entries.{Entry, issued, spent, ordered, answered, reported, good, authorization_ended, finalized, certified, deactivated}
use Rattle.model_examples.specs.Entries.{History}
use Rattle.model_examples.specs.Calls.{on, zeros, order_desk, account_desk, terms_of, default_terms, first_key, asked, signed, request, request_at, nonce_two}
use Rattle.model_examples.specs.Calls.{wants}
use Rattle.model_examples.specs.{Offices.handed, Offices.Repeats, Texts.nothing_here, Texts.unfit_report, Texts.order_not_ready, Texts.bad_csr}

-- a desk with an order of a.example: nonces live 3600 seconds, orders and authorizations 100
abbrev pub short_desk : History
short_desk = order_desk (terms_of 3600 100 100)

-- the key authorization of a token of zero bytes under the first key (8.1)
abbrev pub authorization_text : List ℕ
authorization_text = codes "AAAAAAAAAAAAAAAAAAAAAA.CmzeuaSxxfG8gIKRU_AgBzPa16nTt0H64JD7q1sZUUY"

-- the validator found the right body for the first challenge
abbrev pub matching : ℕ → Call
matching at = asked at 0 (ask.Office (office.Report 1 (found.Body authorization_text)))

-- a request at a moment that reads an object
abbrev pub reading : ℕ → Target → Call
reading at target = request_at at target []

-- the client answers a challenge at a moment, and gets this document of it, with a link to the first authorization
abbrev pub Challenged : History → ℕ → ℕ → List ℕ → List Entry → Type 0
Challenged F at chall text entries = Answers F (request_at at (to.Chall chall) (codes "{}")) (below (codes "https://ca.example/authz/1") (shows text)) entries

-- a report, or what the signing office hands in, does not fit, and nothing is recorded
abbrev pub Unfit : History → Call → Type 0
Unfit F call = Gives F call (plain 409 (Problem false unfit_report)) []

-- ---- a challenge is answered and reported

-- the challenge that was answered
abbrev pub processing_challenge : List ℕ
processing_challenge = codes "{\"status\":\"processing\",\"token\":\"AAAAAAAAAAAAAAAAAAAAAA\",\"type\":\"http-01\",\"url\":\"https://ca.example/chall/1\"}"

-- the first challenge was answered at 10
abbrev pub answered_desk : History
answered_desk = on 10 (answered 1) ∷ short_desk

-- the challenge that was proved at 100
abbrev pub valid_challenge : List ℕ
valid_challenge =
    codes "{\"status\":\"valid\",\"token\":\"AAAAAAAAAAAAAAAAAAAAAA\",\"type\":\"http-01\",\"url\":\"https://ca.example/chall/1\",\"validated\":\"1970-01-01T00:01:40Z\"}"

-- and reported good at 100
abbrev pub ready_desk : History
ready_desk = on 100 (reported 1 good) ∷ answered_desk

-- the authorization with its first challenge answered, past its moment
abbrev pub expired_document : List ℕ
expired_document =
    codes "{\"challenges\":[{\"status\":\"processing\",\"token\":\"AAAAAAAAAAAAAAAAAAAAAA\",\"type\":\"http-01\",\"url\":\"https://ca.example/chall/1\"},{\"status\":\"pending\",\"token\":\"AAAAAAAAAAAAAAAAAAAAAA\",\"type\":\"dns-01\",\"url\":\"https://ca.example/chall/2\"}],\"expires\":\"1970-01-01T00:01:40Z\",\"identifier\":{\"type\":\"dns\",\"value\":\"a.example\"},\"status\":\"expired\"}"

-- ---- an authorization is deactivated

-- the order was proved and finalized
abbrev pub processing_desk : History
processing_desk = on 0 (finalized 1 (1 ∷ 2 ∷ 3 ∷ [])) ∷ on 0 (reported 1 good) ∷ on 0 (answered 1) ∷ order_desk default_terms

-- the client deactivates the authorization
abbrev pub deactivating : Call
deactivating = request (to.Authz 1) (codes "{\"status\":\"deactivated\"}")

-- the authorization that was valid, and is deactivated
abbrev pub deactivated_authorization : List ℕ
deactivated_authorization =
    codes "{\"challenges\":[{\"status\":\"valid\",\"token\":\"AAAAAAAAAAAAAAAAAAAAAA\",\"type\":\"http-01\",\"url\":\"https://ca.example/chall/1\",\"validated\":\"1970-01-01T00:00:00Z\"}],\"expires\":\"1970-01-31T00:00:00Z\",\"identifier\":{\"type\":\"dns\",\"value\":\"a.example\"},\"status\":\"deactivated\"}"

-- the desk after that
abbrev pub fallen_desk : History
fallen_desk = on 0 (authorization_ended 1 deactivated) ∷ processing_desk

-- an order that got its certificate before its authorization was deactivated
abbrev pub valid_desk : History
valid_desk = on 0 (authorization_ended 1 deactivated) ∷ on 0 (certified 1 (codes "chain")) ∷ processing_desk

-- ---- an order of two names

-- an order of a.example and b.example, the first of them validated
abbrev pub half_desk : History
half_desk = on 0 (reported 1 good) ∷ on 0 (answered 1) ∷ on 0 (ordered 1 (wants (codes "a.example") ∷ wants (codes "b.example") ∷ [])) ∷ account_desk

-- the second too, by its dns-01 challenge
abbrev pub whole_desk : History
whole_desk = on 0 (reported 4 good) ∷ on 0 (answered 4) ∷ half_desk

-- the client finalizes the order
abbrev pub finalizing : List ℕ → Call
finalizing payload = request (to.Finalize 1) payload

-- the desk after that
abbrev pub finalized_desk : History
finalized_desk = on 0 (finalized 1 (1 ∷ 2 ∷ 3 ∷ [])) ∷ whole_desk

-- statuses over time: validation, expiry, deactivation, and what orders make of them
pub record StatusesAreDerived : Type 0 where
  -- ---- a challenge is answered and reported
  -- the client says that a challenge can be validated (7.5.1)
  pub challenge_answered : Challenged short_desk 10 1 processing_challenge (answered 1 ∷ [])
  -- answering again changes nothing
  pub answers_again : Challenged answered_desk 11 1 processing_challenge []
  -- a matching report in the authorization's last second
  pub report_in_time : Gives answered_desk (matching 100) (shows valid_challenge) (reported 1 good ∷ [])
  -- makes the authorization valid, which then shows that challenge alone
  pub valid_authorization : Reads ready_desk (reading 100 (to.Authz 1))
      (codes "{\"challenges\":[{\"status\":\"valid\",\"token\":\"AAAAAAAAAAAAAAAAAAAAAA\",\"type\":\"http-01\",\"url\":\"https://ca.example/chall/1\",\"validated\":\"1970-01-01T00:01:40Z\"}],\"expires\":\"1970-01-01T00:01:40Z\",\"identifier\":{\"type\":\"dns\",\"value\":\"a.example\"},\"status\":\"valid\"}")
  -- and the order ready
  pub ready_order : Reads ready_desk (reading 100 (to.Order 1))
      (codes "{\"authorizations\":[\"https://ca.example/authz/1\"],\"expires\":\"1970-01-01T00:01:40Z\",\"finalize\":\"https://ca.example/order/1/finalize\",\"identifiers\":[{\"type\":\"dns\",\"value\":\"a.example\"}],\"status\":\"ready\"}")
  -- a second later the report comes too late
  pub report_too_late : Unfit answered_desk (matching 101)
  -- the order is invalid
  pub expired_order : Reads answered_desk (reading 101 (to.Order 1))
      (codes "{\"authorizations\":[\"https://ca.example/authz/1\"],\"expires\":\"1970-01-01T00:01:40Z\",\"finalize\":\"https://ca.example/order/1/finalize\",\"identifiers\":[{\"type\":\"dns\",\"value\":\"a.example\"}],\"status\":\"invalid\"}")
  -- its authorization expired
  pub expired_authorization : Reads answered_desk (reading 101 (to.Authz 1)) expired_document
  -- a valid authorization expires too
  pub valid_expires : Reads ready_desk (reading 101 (to.Authz 1))
      (codes "{\"challenges\":[{\"status\":\"valid\",\"token\":\"AAAAAAAAAAAAAAAAAAAAAA\",\"type\":\"http-01\",\"url\":\"https://ca.example/chall/1\",\"validated\":\"1970-01-01T00:01:40Z\"}],\"expires\":\"1970-01-01T00:01:40Z\",\"identifier\":{\"type\":\"dns\",\"value\":\"a.example\"},\"status\":\"expired\"}")
  -- an answer that comes too late is not recorded
  pub answer_too_late : Challenged short_desk 101 1
      (codes "{\"status\":\"pending\",\"token\":\"AAAAAAAAAAAAAAAAAAAAAA\",\"type\":\"http-01\",\"url\":\"https://ca.example/chall/1\"}") []
  -- an end that comes past the authorization's moment does not show: it has expired
  pub late_end : Reads answered_desk (request_at 101 (to.Authz 1) (codes "{\"status\":\"deactivated\"}")) expired_document
  -- ---- the same report again, and others
  -- a matching report again records nothing
  pub report_again : Gives ready_desk (matching 100) (shows valid_challenge) []
  -- another finding contradicts it
  pub report_contradicts : Unfit ready_desk (asked 100 0 (ask.Office (office.Report 1 (found.Error fetch.Connection))))
  -- a challenge that nobody answered waits for no report
  pub report_unasked : Unfit short_desk (matching 10)
  -- ---- an authorization is deactivated
  -- there is no certificate while the order is processing
  pub no_certificate_yet : Refuses processing_desk (reading 0 (to.Cert 1)) 404 nothing_here
  -- a valid authorization is deactivated by its client (7.5.2)
  pub deactivates : Answers processing_desk deactivating (shows deactivated_authorization) (authorization_ended 1 deactivated ∷ [])
  -- again: nothing changes
  pub deactivates_again : Reads fallen_desk deactivating deactivated_authorization
  -- the order that was processing is invalid
  pub processing_falls : Reads fallen_desk (reading 0 (to.Order 1))
      (codes "{\"authorizations\":[\"https://ca.example/authz/1\"],\"expires\":\"1970-01-08T00:00:00Z\",\"finalize\":\"https://ca.example/order/1/finalize\",\"identifiers\":[{\"type\":\"dns\",\"value\":\"a.example\"}],\"status\":\"invalid\"}")
  -- and gets no certificate
  pub fallen_is_not_certified : Unfit fallen_desk (handed (office.Certify 1 (codes "chain")))
  -- an order that is invalid stands in no list of orders (7.1.2.1)
  pub fallen_is_not_listed : Reads fallen_desk (reading 0 (to.Orders 1)) (codes "{\"orders\":[]}")
  -- a valid order stays valid
  pub valid_stays : Reads valid_desk (reading 0 (to.Order 1))
      (codes "{\"authorizations\":[\"https://ca.example/authz/1\"],\"certificate\":\"https://ca.example/cert/1\",\"expires\":\"1970-01-08T00:00:00Z\",\"finalize\":\"https://ca.example/order/1/finalize\",\"identifiers\":[{\"type\":\"dns\",\"value\":\"a.example\"}],\"status\":\"valid\"}")
  -- past its moment too
  pub valid_never_expires : Gives (on 604801 (issued (zeros 16)) ∷ valid_desk) (asked 604801 16 (signed first_key nonce_two (to.Orders 1) []))
      (renewed (codes "AAAAAAAAAAMAAAAAAAAAAAAAAAAAAAAA") (plain 200 (Json (codes "{\"orders\":[\"https://ca.example/order/1\"]}"))))
      (spent 2 ∷ issued (zeros 16) ∷ [])
  -- and its certificate is given as it was handed in (7.4.2)
  pub certificate_given : Answers valid_desk (reading 0 (to.Cert 1)) (plain 200 (Certificate (codes "chain"))) []
  -- ---- an order of two names
  -- one validated of two: the order is pending
  pub one_of_two : Reads half_desk (reading 0 (to.Order 1))
      (codes "{\"authorizations\":[\"https://ca.example/authz/1\",\"https://ca.example/authz/2\"],\"expires\":\"1970-01-08T00:00:00Z\",\"finalize\":\"https://ca.example/order/1/finalize\",\"identifiers\":[{\"type\":\"dns\",\"value\":\"a.example\"},{\"type\":\"dns\",\"value\":\"b.example\"}],\"status\":\"pending\"}")
  -- and is not finalized (7.4)
  pub pending_is_not_finalized : Refuses half_desk (finalizing (codes "{\"csr\":\"AQID\"}")) 403 order_not_ready
  -- both: it is ready
  pub both_of_two : Reads whole_desk (reading 0 (to.Order 1))
      (codes "{\"authorizations\":[\"https://ca.example/authz/1\",\"https://ca.example/authz/2\"],\"expires\":\"1970-01-08T00:00:00Z\",\"finalize\":\"https://ca.example/order/1/finalize\",\"identifiers\":[{\"type\":\"dns\",\"value\":\"a.example\"},{\"type\":\"dns\",\"value\":\"b.example\"}],\"status\":\"ready\"}")
  -- a CSR of no bytes
  pub empty_csr : Refuses whole_desk (finalizing (codes "{\"csr\":\"\"}")) 400 bad_csr
  -- a text that is no base64url
  pub no_csr : Refuses whole_desk (finalizing (codes "{\"csr\":\"AQID=\"}")) 400 bad_csr
  -- a CSR of three bytes: the order is processing
  pub finalizes : Answers whole_desk (finalizing (codes "{\"csr\":\"AQID\"}")) (located (codes "https://ca.example/order/1") (shows (codes
      "{\"authorizations\":[\"https://ca.example/authz/1\",\"https://ca.example/authz/2\"],\"expires\":\"1970-01-08T00:00:00Z\",\"finalize\":\"https://ca.example/order/1/finalize\",\"identifiers\":[{\"type\":\"dns\",\"value\":\"a.example\"},{\"type\":\"dns\",\"value\":\"b.example\"}],\"status\":\"processing\"}")))
      (finalized 1 (1 ∷ 2 ∷ 3 ∷ []) ∷ [])
  -- again: it is not ready any more
  pub finalizes_once : Refuses finalized_desk (finalizing (codes "{\"csr\":\"AQID\"}")) 403 order_not_ready
  -- the signing office sees its CSR and its names
  pub order_work : Repeats finalized_desk office.OrderWork (codes "{\"orders\":[{\"csr\":\"AQID\",\"names\":[\"a.example\",\"b.example\"],\"order\":1}]}")
  -- ---- what the client of a proved or pending authorization may do
  -- a challenge beside the one that proved the authorization is not answered any more
  pub other_challenge_answered : Challenged ready_desk 100 2
      (codes "{\"status\":\"pending\",\"token\":\"AAAAAAAAAAAAAAAAAAAAAA\",\"type\":\"dns-01\",\"url\":\"https://ca.example/chall/2\"}") []
  -- a pending authorization is deactivated in its last second
  pub deactivates_pending : Answers short_desk (request_at 100 (to.Authz 1) (codes "{\"status\":\"deactivated\"}")) (shows (codes
      "{\"challenges\":[{\"status\":\"pending\",\"token\":\"AAAAAAAAAAAAAAAAAAAAAA\",\"type\":\"http-01\",\"url\":\"https://ca.example/chall/1\"},{\"status\":\"pending\",\"token\":\"AAAAAAAAAAAAAAAAAAAAAA\",\"type\":\"dns-01\",\"url\":\"https://ca.example/chall/2\"}],\"expires\":\"1970-01-01T00:01:40Z\",\"identifier\":{\"type\":\"dns\",\"value\":\"a.example\"},\"status\":\"deactivated\"}"))
      (authorization_ended 1 deactivated ∷ [])
