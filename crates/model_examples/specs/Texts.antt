-- The documents of refusals, as they are sent (RFC 7807; RFC 8555, 6.7).
use Rattle.std.specs.Prelude.{ℕ, List, codes}

abbrev pub malformed : List ℕ
malformed = codes "{\"detail\":\"the request is not well formed\",\"status\":400,\"type\":\"urn:ietf:params:acme:error:malformed\"}"

abbrev pub nothing_here : List ℕ
nothing_here = codes "{\"detail\":\"there is nothing here\",\"status\":404,\"type\":\"urn:ietf:params:acme:error:malformed\"}"

abbrev pub wrong_method : List ℕ
wrong_method = codes "{\"detail\":\"this method is not served here\",\"status\":405,\"type\":\"urn:ietf:params:acme:error:malformed\"}"

abbrev pub bad_nonce : List ℕ
bad_nonce = codes "{\"detail\":\"the nonce is not open\",\"status\":400,\"type\":\"urn:ietf:params:acme:error:badNonce\"}"

abbrev pub bad_public_key : List ℕ
bad_public_key = codes "{\"detail\":\"the key is not accepted\",\"status\":400,\"type\":\"urn:ietf:params:acme:error:badPublicKey\"}"

abbrev pub no_account : List ℕ
no_account = codes "{\"detail\":\"no account has this key\",\"status\":400,\"type\":\"urn:ietf:params:acme:error:accountDoesNotExist\"}"

abbrev pub unauthorized : List ℕ
unauthorized = codes "{\"detail\":\"the account is not valid\",\"status\":401,\"type\":\"urn:ietf:params:acme:error:unauthorized\"}"

abbrev pub unsupported_contact : List ℕ
unsupported_contact = codes "{\"detail\":\"the contact scheme is not supported\",\"status\":400,\"type\":\"urn:ietf:params:acme:error:unsupportedContact\"}"

abbrev pub invalid_contact : List ℕ
invalid_contact = codes "{\"detail\":\"the contact is not accepted\",\"status\":400,\"type\":\"urn:ietf:params:acme:error:invalidContact\"}"

abbrev pub unsupported_identifier : List ℕ
unsupported_identifier =
    codes "{\"detail\":\"the identifier type is not supported\",\"status\":400,\"type\":\"urn:ietf:params:acme:error:unsupportedIdentifier\"}"

abbrev pub rejected_identifier : List ℕ
rejected_identifier = codes "{\"detail\":\"the name is not accepted\",\"status\":400,\"type\":\"urn:ietf:params:acme:error:rejectedIdentifier\"}"

abbrev pub order_not_ready : List ℕ
order_not_ready = codes "{\"detail\":\"the order is not ready\",\"status\":403,\"type\":\"urn:ietf:params:acme:error:orderNotReady\"}"

abbrev pub bad_csr : List ℕ
bad_csr = codes "{\"detail\":\"the CSR is not accepted\",\"status\":400,\"type\":\"urn:ietf:params:acme:error:badCSR\"}"

abbrev pub unfit_report : List ℕ
unfit_report = codes "{\"detail\":\"the report does not fit the records\",\"status\":409,\"type\":\"urn:ietf:params:acme:error:malformed\"}"

abbrev pub key_in_use : List ℕ
key_in_use = codes "{\"detail\":\"the key has an account\",\"status\":409,\"type\":\"urn:ietf:params:acme:error:malformed\"}"

abbrev pub could_not_act : List ℕ
could_not_act = codes "{\"detail\":\"the desk could not act\",\"status\":500,\"type\":\"urn:ietf:params:acme:error:serverInternal\"}"

abbrev pub too_large : List ℕ
too_large = codes "{\"detail\":\"the request is too large\",\"status\":413,\"type\":\"urn:ietf:params:acme:error:malformed\"}"

-- the document of the first account, without contacts
abbrev pub plain_account : List ℕ
plain_account = codes "{\"contact\":[],\"orders\":\"https://ca.example/account/1/orders\",\"status\":\"valid\"}"
