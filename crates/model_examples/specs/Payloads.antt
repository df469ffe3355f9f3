-- Payloads that have not the form that their route reads (RFC 8555, 6.3, 7.3, 7.4, 7.5).
use Rattle.std.specs.Prelude.{ℕ, List, [], codes}
use Rattle.desk_model.specs.declared.call.Target.{Target}
use Rattle.desk_model.specs.declared.call.Target.TheVariants as to
use Rattle.model_examples.specs.{Accounts.with_nonce, Computed.Refuses, Texts.malformed, Calls.order_desk, Calls.default_terms, Calls.request}

-- a request to the desk of one order is malformed
abbrev pub IsMalformed : Target → List ℕ → Type 0
IsMalformed target payload = Refuses (order_desk default_terms) (request target payload) 400 malformed

-- what is only read takes no payload
abbrev pub IsOnlyRead : Target → Type 0
IsOnlyRead target = IsMalformed target (codes "{}")

-- newAccount by a key without an account is malformed
abbrev pub IsMalformedAccount : List ℕ → Type 0
IsMalformedAccount payload = Refuses with_nonce (request to.NewAccount payload) 400 malformed

-- payloads that have not the form that their route reads
pub record PayloadsAreRefused : Type 0 where
  -- newAccount wants an object
  pub account_of_list : IsMalformedAccount (codes "[]")
  -- an empty text is no object
  pub account_of_nothing : IsMalformedAccount []
  -- contacts are a list
  pub contact_no_list : IsMalformedAccount (codes "{\"contact\":\"mailto:a@b\"}")
  -- of strings
  pub contact_no_string : IsMalformedAccount (codes "{\"contact\":[\"mailto:a@b\",1]}")
  -- a member that is null is there
  pub contact_null : IsMalformedAccount (codes "{\"contact\":null}")
  -- onlyReturnExisting is true or false
  pub existing_no_truth : IsMalformedAccount (codes "{\"onlyReturnExisting\":1}")
  -- of a known key the form of the payload is looked at
  pub known_key_malformed : IsMalformed to.NewAccount (codes "{\"contact\":1}")
  -- an account is changed by an object
  pub account_change_of_list : IsMalformed (to.Account 1) (codes "[]")
  -- whose contacts are a list of strings
  pub account_change_contact : IsMalformed (to.Account 1) (codes "{\"contact\":{}}")
  -- the list of orders is only read
  pub orders_with_payload : IsOnlyRead (to.Orders 1)
  -- an order is only read
  pub order_with_payload : IsOnlyRead (to.Order 1)
  -- a certificate is only read: the form is tested before the order's status
  pub certificate_with_payload : IsOnlyRead (to.Cert 1)
  -- an authorization is read or deactivated, and nothing else
  pub authorization_other_status : IsMalformed (to.Authz 1) (codes "{\"status\":\"valid\"}")
  -- a challenge is answered by an object
  pub challenge_of_list : IsMalformed (to.Chall 1) (codes "[]")
  -- a CSR is a string
  pub csr_no_string : IsMalformed (to.Finalize 1) (codes "{\"csr\":1}")
  -- newOrder wants identifiers
  pub no_identifiers : IsMalformed to.NewOrder (codes "{}")
  -- one at least
  pub empty_identifiers : IsMalformed to.NewOrder (codes "{\"identifiers\":[]}")
  -- each with a value
  pub identifier_without_value : IsMalformed to.NewOrder (codes "{\"identifiers\":[{\"type\":\"dns\"}]}")
  -- that is a string
  pub identifier_no_string : IsMalformed to.NewOrder (codes "{\"identifiers\":[{\"type\":\"dns\",\"value\":1}]}")
  -- an order has no notBefore, whatever it is
  pub not_before : IsMalformed to.NewOrder (codes "{\"identifiers\":[{\"type\":\"dns\",\"value\":\"a.example\"}],\"notBefore\":null}")
  -- nor a notAfter
  pub not_after : IsMalformed to.NewOrder (codes "{\"identifiers\":[{\"type\":\"dns\",\"value\":\"a.example\"}],\"notAfter\":\"1970-01-08T00:00:00Z\"}")
