-- The validator and the signing office: what waits for them, and what they hand in (RFC 8555, 7.4, 8).
use Rattle.std.specs.Prelude.{ℕ, List, [], ◌∷◌, ◌++◌, replicate, false, codes}
use Rattle.desk_model.specs.declared.{call.Call.Call, call.OfficeAsk.OfficeAsk, call.Finding.Finding, call.OrderProblem.OrderProblem}
use Rattle.desk_model.specs.declared.call.Ask.TheVariants as ask
use Rattle.desk_model.specs.declared.call.OfficeAsk.TheVariants as office
use Rattle.desk_model.specs.declared.call.Finding.TheVariants as found
use Rattle.desk_model.specs.declared.call.FetchError.TheVariants as fetch
use Rattle.model_examples.specs.Entries.{Entry, opened, ordered, answered, reported, good, incorrect_response, connection, dns, finalized, certified, failed}
use Rattle.model_examples.specs.Entries.{History}
use Rattle.model_examples.specs.{Computed.Gives, Computed.plain, Computed.shows, Computed.Problem, Calls.on, Calls.new_desk, Calls.asked, Calls.wants}
use Rattle.model_examples.specs.{Calls.second_key, Keys.rsa_key, Texts.malformed, Texts.nothing_here, Texts.unfit_report}

-- an order of example.org, by an account with the key of RFC 7638, 3.1
abbrev pub waiting_desk : History
waiting_desk = on 0 (ordered 1 (wants (codes "example.org") ∷ [])) ∷ on 0 (opened rsa_key []) ∷ new_desk

-- its http-01 challenge was answered
abbrev pub http_desk : History
http_desk = on 0 (answered 1) ∷ waiting_desk

-- what an office hands in or asks for, at 0
abbrev pub handed : OfficeAsk → Call
handed what = asked 0 0 (ask.Office what)

-- refused, with nothing recorded
abbrev pub Turns : History → OfficeAsk → ℕ → List ℕ → Type 0
Turns F what status text = Gives F (handed what) (plain status (Problem false text)) []

-- answered with this document, with nothing recorded
abbrev pub Repeats : History → OfficeAsk → List ℕ → Type 0
Repeats F what text = Gives F (handed what) (shows text) []

-- answered with this document, with this entry recorded
abbrev pub Notes : History → OfficeAsk → List ℕ → Entry → Type 0
Notes F what text entry = Gives F (handed what) (shows text) (entry ∷ [])

-- ---- what waits for the validator

-- the work on the http-01 challenge: the key authorization is expected
abbrev pub http_work : List ℕ
http_work =
    codes "{\"challenges\":[{\"challenge\":1,\"expected\":\"AAAAAAAAAAAAAAAAAAAAAA.NzbLsXh8uDCcd-6MNwXF4W_7noWXFZAfHkxZsRGC9Xs\",\"name\":\"example.org\",\"token\":\"AAAAAAAAAAAAAAAAAAAAAA\",\"type\":\"http-01\"}]}"

-- ---- reports

-- a report on the first challenge
abbrev pub report : Finding → OfficeAsk
report finding = office.Report 1 finding

-- the challenge whose response was another
abbrev pub unmatched_challenge : List ℕ
unmatched_challenge =
    codes "{\"error\":{\"detail\":\"the response did not match\",\"status\":403,\"type\":\"urn:ietf:params:acme:error:incorrectResponse\"},\"status\":\"invalid\",\"token\":\"AAAAAAAAAAAAAAAAAAAAAA\",\"type\":\"http-01\",\"url\":\"https://ca.example/chall/1\"}"

-- the challenge that was proved at 0
abbrev pub proved_challenge : List ℕ
proved_challenge =
    codes "{\"status\":\"valid\",\"token\":\"AAAAAAAAAAAAAAAAAAAAAA\",\"type\":\"http-01\",\"url\":\"https://ca.example/chall/1\",\"validated\":\"1970-01-01T00:00:00Z\"}"

-- the challenge to which there was no connection
abbrev pub unconnected_challenge : List ℕ
unconnected_challenge =
    codes "{\"error\":{\"detail\":\"the validator could not connect\",\"status\":400,\"type\":\"urn:ietf:params:acme:error:connection\"},\"status\":\"invalid\",\"token\":\"AAAAAAAAAAAAAAAAAAAAAA\",\"type\":\"http-01\",\"url\":\"https://ca.example/chall/1\"}"

-- the challenge for which no records were found
abbrev pub unfound_challenge : List ℕ
unfound_challenge =
    codes "{\"error\":{\"detail\":\"the validator found no records\",\"status\":400,\"type\":\"urn:ietf:params:acme:error:dns\"},\"status\":\"invalid\",\"token\":\"AAAAAAAAAAAAAAAAAAAAAA\",\"type\":\"http-01\",\"url\":\"https://ca.example/chall/1\"}"

-- the challenge failed
abbrev pub reported_desk : History
reported_desk = on 0 (reported 1 incorrect_response) ∷ http_desk

-- ---- the signing office

-- the order is processing
abbrev pub processing_desk : History
processing_desk = on 0 (finalized 1 (1 ∷ 2 ∷ 3 ∷ [])) ∷ on 0 (reported 1 good) ∷ http_desk

-- the office hands in a certificate, whose bytes no document shows
abbrev pub certify : List ℕ → OfficeAsk
certify bytes = office.Certify 1 bytes

-- the document of the order with its certificate
abbrev pub valid_order : List ℕ
valid_order =
    codes "{\"authorizations\":[\"https://ca.example/authz/1\"],\"certificate\":\"https://ca.example/cert/1\",\"expires\":\"1970-01-08T00:00:00Z\",\"finalize\":\"https://ca.example/order/1/finalize\",\"identifiers\":[{\"type\":\"dns\",\"value\":\"example.org\"}],\"status\":\"valid\"}"

-- the order has its certificate
abbrev pub certified_desk : History
certified_desk = on 0 (certified 1 (codes "chain")) ∷ processing_desk

-- the office fails the order
abbrev pub failing : (kind detail : List ℕ) → OfficeAsk
failing kind detail = office.FailOrder 1 (record { kind = kind; detail = detail })

-- a problem with the CSR
abbrev pub short_key : OrderProblem
short_key = record { kind = codes "badCSR"; detail = codes "key too short" }

-- the document of the order with that problem
abbrev pub failed_order : List ℕ
failed_order =
    codes "{\"authorizations\":[\"https://ca.example/authz/1\"],\"error\":{\"detail\":\"key too short\",\"status\":400,\"type\":\"urn:ietf:params:acme:error:badCSR\"},\"expires\":\"1970-01-08T00:00:00Z\",\"finalize\":\"https://ca.example/order/1/finalize\",\"identifiers\":[{\"type\":\"dns\",\"value\":\"example.org\"}],\"status\":\"invalid\"}"

-- the order failed by it
abbrev pub failed_desk : History
failed_desk = on 0 (failed 1 short_key) ∷ processing_desk

-- what waits for the validator and the signing office, and what they hand in
pub record OfficesAreServed : Type 0 where
  -- ---- what waits for the validator
  -- no challenge was answered
  pub no_challenge_work : Repeats waiting_desk office.ChallengeWork (codes "{\"challenges\":[]}")
  -- an http-01 challenge wants the key authorization
  pub http_work : Repeats http_desk office.ChallengeWork http_work
  -- a dns-01 challenge wants its digest
  pub both_work : Repeats (on 0 (answered 2) ∷ http_desk) office.ChallengeWork
      (codes "{\"challenges\":[{\"challenge\":1,\"expected\":\"AAAAAAAAAAAAAAAAAAAAAA.NzbLsXh8uDCcd-6MNwXF4W_7noWXFZAfHkxZsRGC9Xs\",\"name\":\"example.org\",\"token\":\"AAAAAAAAAAAAAAAAAAAAAA\",\"type\":\"http-01\"},{\"challenge\":2,\"expected\":\"6H4FhzYmR97XkCWAT_eXR2sP0qjpSQae4RcMSVuj2EU\",\"name\":\"example.org\",\"token\":\"AAAAAAAAAAAAAAAAAAAAAA\",\"type\":\"dns-01\"}]}")
  -- what is past its moment waits no longer
  pub no_expired_work : Gives http_desk (asked 2592001 0 (ask.Office office.ChallengeWork)) (shows (codes "{\"challenges\":[]}")) []
  -- ---- reports
  -- another body than the one expected
  pub wrong_body : Notes http_desk (report (found.Body [])) unmatched_challenge (reported 1 incorrect_response)
  -- the right one, with a line end
  pub right_body : Notes http_desk (report (found.Body (codes "AAAAAAAAAAAAAAAAAAAAAA.NzbLsXh8uDCcd-6MNwXF4W_7noWXFZAfHkxZsRGC9Xs" ++ 10 ∷ [])))
      proved_challenge (reported 1 good)
  -- the right record among others
  pub right_record :
      Notes (on 0 (answered 2) ∷ waiting_desk) (office.Report 2 (found.Records (codes "x" ∷ codes "6H4FhzYmR97XkCWAT_eXR2sP0qjpSQae4RcMSVuj2EU" ∷ [])))
      (codes "{\"status\":\"valid\",\"token\":\"AAAAAAAAAAAAAAAAAAAAAA\",\"type\":\"dns-01\",\"url\":\"https://ca.example/chall/2\",\"validated\":\"1970-01-01T00:00:00Z\"}")
      (reported 2 good)
  -- no connection
  pub no_connection : Notes http_desk (report (found.Error fetch.Connection)) unconnected_challenge (reported 1 connection)
  -- no records
  pub no_records_found : Notes http_desk (report (found.Error fetch.Dns)) unfound_challenge (reported 1 dns)
  -- another wrong body is the same outcome: nothing is recorded
  pub wrong_body_again : Repeats reported_desk (report (found.Body (codes "x"))) unmatched_challenge
  -- another outcome contradicts it
  pub other_outcome : Turns reported_desk (report (found.Error fetch.Connection)) 409 unfit_report
  -- records for an http-01 challenge, whatever stands of it
  pub records_for_http : Turns reported_desk (report (found.Records [])) 400 malformed
  -- a body for a dns-01 challenge
  pub body_for_dns : Turns http_desk (office.Report 2 (found.Body [])) 400 malformed
  -- a challenge that was never made
  pub unknown_challenge : Turns http_desk (office.Report 99 (found.Body [])) 404 nothing_here
  -- ---- the signing office
  -- no order is processing
  pub no_order_work : Repeats http_desk office.OrderWork (codes "{\"orders\":[]}")
  -- a certificate makes the order valid
  pub certifies : Notes processing_desk (certify (codes "chain")) valid_order (certified 1 (codes "chain"))
  -- of no bytes
  pub empty_certificate : Turns processing_desk (certify []) 400 malformed
  -- the form is tested before the status, and behind the number
  pub empty_for_unknown : Turns processing_desk (office.Certify 2 []) 404 nothing_here
  -- the same bytes again
  pub same_certificate : Repeats certified_desk (certify (codes "chain")) valid_order
  -- other bytes
  pub other_certificate : Turns certified_desk (certify (codes "other")) 409 unfit_report
  -- an order that is not processing
  pub unready_certificate : Turns http_desk (certify (codes "chain")) 409 unfit_report
  -- the office says why it makes no certificate
  pub fails : Notes processing_desk (failing (codes "badCSR") (codes "key too short")) failed_order (failed 1 short_key)
  -- a failure of its own
  pub fails_inside : Notes processing_desk (failing (codes "serverInternal") (codes "no signer"))
      (codes "{\"authorizations\":[\"https://ca.example/authz/1\"],\"error\":{\"detail\":\"no signer\",\"status\":500,\"type\":\"urn:ietf:params:acme:error:serverInternal\"},\"expires\":\"1970-01-08T00:00:00Z\",\"finalize\":\"https://ca.example/order/1/finalize\",\"identifiers\":[{\"type\":\"dns\",\"value\":\"example.org\"}],\"status\":\"invalid\"}")
      (failed 1 (record { kind = codes "serverInternal"; detail = codes "no signer" }))
  -- the same again
  pub fails_again : Repeats failed_desk (failing (codes "badCSR") (codes "key too short")) failed_order
  -- another detail
  pub fails_otherwise : Turns failed_desk (failing (codes "badCSR") (codes "key too long")) 409 unfit_report
  -- an error type that is not the office's
  pub fails_by_dns : Turns processing_desk (failing (codes "dns") (codes "key too short")) 400 malformed
  -- a detail of 257 bytes
  pub fails_at_length : Turns processing_desk (failing (codes "badCSR") (replicate 257 97)) 400 malformed
  -- no detail
  pub fails_without_detail : Turns processing_desk (failing (codes "badCSR") []) 400 malformed
  -- an order that was never made
  pub fails_unknown : Turns processing_desk (office.FailOrder 2 short_key) 404 nothing_here
  -- an order that is not processing
  pub fails_unready : Turns http_desk (failing (codes "badCSR") (codes "key too short")) 409 unfit_report
  -- ---- keys and the directory
  -- the canonical text of an account's key
  pub key_of_account : Repeats waiting_desk (office.KeyOf 1) rsa_key
  -- an account that was never opened
  pub key_of_unknown : Turns waiting_desk (office.KeyOf 2) 404 nothing_here
  -- the directory
  pub directory : Repeats new_desk office.Directory
      (codes "{\"keyChange\":\"https://ca.example/key-change\",\"newAccount\":\"https://ca.example/new-account\",\"newNonce\":\"https://ca.example/new-nonce\",\"newOrder\":\"https://ca.example/new-order\"}")
  -- ---- repeats of failed reports, and keys of several accounts
  -- the same failure of the connection again
  pub connection_again : Repeats (on 0 (reported 1 connection) ∷ http_desk) (report (found.Error fetch.Connection)) unconnected_challenge
  -- the same failure of the look-up again
  pub dns_again : Repeats (on 0 (reported 1 dns) ∷ http_desk) (report (found.Error fetch.Dns)) unfound_challenge
  -- the other failure contradicts it
  pub dns_after_connection : Turns (on 0 (reported 1 connection) ∷ http_desk) (report (found.Error fetch.Dns)) 409 unfit_report
  -- a challenge asks for the key of its own account
  pub own_key_work :
      Repeats (on 0 (answered 3) ∷ on 0 (ordered 2 (wants (codes "a.example") ∷ [])) ∷ on 0 (opened second_key []) ∷ waiting_desk) office.ChallengeWork
      (codes "{\"challenges\":[{\"challenge\":3,\"expected\":\"AAAAAAAAAAAAAAAAAAAAAA.pF1dcf6lIm6B95gxRV0_u2O1e7FkRx6C8-vJxcZYuDw\",\"name\":\"a.example\",\"token\":\"AAAAAAAAAAAAAAAAAAAAAA\",\"type\":\"http-01\"}]}")
