-- Refusals of signed requests: which test answers, and that the nonce is spent (RFC 8555, 6.2, 6.5, 6.7).
use Rattle.std.specs.Prelude.{ℕ, List, [], ◌∷◌, Option, Some, None, Ok, Err, codes}
use Rattle.model_examples.specs.Entries.{issued, opened, account_ended, revoked, History}
use Rattle.desk_model.specs.declared.{call.Call.Call, call.Target.Target}
use Rattle.desk_model.specs.declared.call.Ask.TheVariants as ask
use Rattle.desk_model.specs.declared.call.Target.TheVariants as to
use Rattle.model_examples.specs.Computed.{Gives, refuses, Reads, Refuses}
use Rattle.model_examples.specs.Calls.{on, zeros, account_desk, order_desk, default_terms, first_key, second_key, asked, signed, request, nonce_one, nonce_two}
use Rattle.model_examples.specs.Texts.{malformed, nothing_here, bad_nonce, bad_public_key, no_account, unauthorized, order_not_ready}

-- ---- the order of the tests

-- a request with this nonce, if any
abbrev pub with_nonce : Option (List ℕ) → Call
with_nonce nonce = asked 0 16 (ask.Signed (record { target = to.NewAccount; key = Ok first_key; nonce = nonce; payload = codes "{}" }))

-- a desk whose account has ended
abbrev pub ended_desk : History
ended_desk = on 0 (account_ended 1 revoked) ∷ account_desk

-- ---- objects that are not there, or another's

-- another account's objects look as if there were none
abbrev pub two_accounts : History
two_accounts = on 0 (opened second_key []) ∷ order_desk default_terms

-- a request of the second account
abbrev pub by_second : Target → List ℕ → Call
by_second target payload = asked 0 16 (signed second_key nonce_one target payload)

-- which test of a signed request answers first, and that its nonce is spent
pub record RequestsAreRefused : Type 0 where
  -- ---- the order of the tests
  -- without a nonce a fresh one is issued, and nothing is spent (6.5)
  pub without_nonce : Gives account_desk (with_nonce None) (refuses 400 bad_nonce nonce_two) (issued (zeros 16) ∷ [])
  -- a nonce that was never issued
  pub unknown_nonce : Gives account_desk (with_nonce (Some nonce_two)) (refuses 400 bad_nonce nonce_two) (issued (zeros 16) ∷ [])
  -- a nonce with the serial of an open one and other random bytes
  pub guessed_nonce :
      Gives account_desk (with_nonce (Some (codes "AAAAAAAAAAEAAAAAAAAAAAAAAAAAAAAB"))) (refuses 400 bad_nonce nonce_two) (issued (zeros 16) ∷ [])
  -- a text that spells no nonce
  pub no_nonce_text : Gives account_desk (with_nonce (Some (codes "AAAA"))) (refuses 400 bad_nonce nonce_two) (issued (zeros 16) ∷ [])
  -- the key is tested behind the nonce, and before the payload
  pub bad_key : Refuses account_desk
      (asked 0 16 (ask.Signed (record { target = to.NewAccount; key = Err (record {}); nonce = Some nonce_one; payload = codes "no object" })))
      400 bad_public_key
  -- a bad key without an open nonce is refused for its nonce
  pub bad_key_without_nonce :
      Gives account_desk (asked 0 16 (ask.Signed (record { target = to.NewAccount; key = Err (record {}); nonce = None; payload = [] })))
      (refuses 400 bad_nonce nonce_two) (issued (zeros 16) ∷ [])
  -- the key has no account: tested before the payload
  pub key_without_account : Refuses account_desk (asked 0 16 (signed second_key nonce_one to.NewOrder (codes "no object"))) 400 no_account
  -- the account has ended: tested before the payload
  pub ended_account : Refuses ended_desk (request to.NewOrder (codes "no object")) 401 unauthorized
  -- the key of an ended account opens no other
  pub ended_key : Refuses ended_desk (request to.NewAccount (codes "no object")) 401 unauthorized
  -- the object is tested before the payload
  pub unknown_order : Refuses account_desk (request (to.Order 1) (codes "no object")) 404 nothing_here
  -- the payload is tested before the order's status
  pub form_before_status : Refuses (order_desk default_terms) (request (to.Finalize 1) (codes "{}")) 400 malformed
  -- the status is tested before the CSR
  pub status_before_csr : Refuses (order_desk default_terms) (request (to.Finalize 1) (codes "{\"csr\":\"!\"}")) 403 order_not_ready
  -- ---- objects that are not there, or another's
  -- the path of another account
  pub another_account : Refuses (on 0 (opened second_key []) ∷ account_desk) (request (to.Account 2) []) 404 nothing_here
  -- the orders of another account
  pub another_orders : Refuses (on 0 (opened second_key []) ∷ account_desk) (request (to.Orders 2) []) 404 nothing_here
  -- another account's order
  pub another_order : Refuses two_accounts (by_second (to.Order 1) []) 404 nothing_here
  -- an order that was never made
  pub missing_order : Refuses two_accounts (by_second (to.Order 99) []) 404 nothing_here
  -- another account's order, to be finalized
  pub another_finalize : Refuses two_accounts (by_second (to.Finalize 1) (codes "{\"csr\":\"AQID\"}")) 404 nothing_here
  -- another account's certificate
  pub another_certificate : Refuses two_accounts (by_second (to.Cert 1) []) 404 nothing_here
  -- another account's authorization
  pub another_authorization : Refuses two_accounts (by_second (to.Authz 1) []) 404 nothing_here
  -- another account's challenge
  pub another_challenge : Refuses two_accounts (by_second (to.Chall 1) (codes "{}")) 404 nothing_here
  -- a challenge that was never made
  pub missing_challenge : Refuses two_accounts (by_second (to.Chall 3) []) 404 nothing_here
  -- the certificate of an order that is not valid
  pub no_certificate : Refuses (order_desk default_terms) (request (to.Cert 1) []) 404 nothing_here
  -- an account lists its own orders alone
  pub own_orders : Reads two_accounts (by_second (to.Orders 2) []) (codes "{\"orders\":[]}")
