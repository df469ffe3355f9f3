-- The document of each refusal (RFC 7807; RFC 8555, 6.7, 6.7.1).
use Rattle.std.specs.Prelude.{◌≡◌, ℕ, List, [], ◌∷◌, true, codes}
use Rattle.serde_json.specs.Written.{compact_text}
use Rattle.desk_model.specs.declared.{refusal.Refusal.Refusal, reply.Problem.Problem, reply.Subproblem.Subproblem}
use Rattle.desk_model.specs.Refusals.{problem_document, refusal_of}
use Rattle.desk_model.specs.declared.refusal.Refusal.TheVariants as refusal
use Rattle.desk_model.specs.declared.reply.Allow.TheVariants as allow
use Rattle.model_examples.specs.Texts.{malformed, nothing_here, wrong_method, bad_nonce, bad_public_key, no_account, unauthorized, unsupported_contact}
use Rattle.model_examples.specs.Texts.{invalid_contact, unsupported_identifier, rejected_identifier, order_not_ready, bad_csr, unfit_report, could_not_act}
use Rattle.model_examples.specs.Texts.{too_large}

-- this refusal, with these subproblems
abbrev pub problem : Refusal → List Subproblem → Problem
problem why subproblems = record { refusal = why; subproblems = subproblems; allow = allow.No; index = true }

-- this refusal has this number, and is said so
abbrev pub Says : ℕ → Refusal → List ℕ → Type 0
Says n why text = ((refusal_of why).number ≡ n) × (compact_text (problem_document (problem why [])) ≡ text)

-- the document of each refusal, byte for byte
pub record ProblemsAreSaid : Type 0 where
  -- the request is not well formed
  pub malformed : Says 1 refusal.Malformed malformed
  -- there is nothing here
  pub nothing_here : Says 2 refusal.NotFound nothing_here
  -- this method is not served here
  pub wrong_method : Says 3 refusal.MethodNotAllowed wrong_method
  -- the nonce is not open
  pub bad_nonce : Says 4 refusal.BadNonce bad_nonce
  -- the key is not accepted
  pub bad_public_key : Says 5 refusal.BadPublicKey bad_public_key
  -- no account has this key
  pub no_account : Says 6 refusal.AccountDoesNotExist no_account
  -- the account is not valid
  pub unauthorized : Says 7 refusal.Unauthorized unauthorized
  -- the contact scheme is not supported
  pub unsupported_contact : Says 8 refusal.UnsupportedContact unsupported_contact
  -- the contact is not accepted
  pub invalid_contact : Says 9 refusal.InvalidContact invalid_contact
  -- the identifier type is not supported
  pub unsupported_identifier : Says 10 refusal.UnsupportedIdentifier unsupported_identifier
  -- the name is not accepted
  pub rejected_identifier : Says 11 refusal.RejectedIdentifier rejected_identifier
  -- the order is not ready
  pub order_not_ready : Says 12 refusal.OrderNotReady order_not_ready
  -- the CSR is not accepted
  pub bad_csr : Says 13 refusal.BadCsr bad_csr
  -- the report does not fit the records
  pub unfit_report : Says 14 refusal.Conflict unfit_report
  -- the desk could not act
  pub could_not_act : Says 15 refusal.ServerInternal could_not_act
  -- the request is too large
  pub too_large : Says 16 refusal.TooLarge too_large
  -- a subproblem has its identifier as received, and no status
  pub one_subproblem : compact_text (problem_document
      (problem refusal.RejectedIdentifier ((record { refusal = refusal.RejectedIdentifier; kind = codes "dns"; value = codes "A..b" }) ∷ [])))
      ≡ codes "{\"detail\":\"the name is not accepted\",\"status\":400,\"subproblems\":[{\"detail\":\"the name is not accepted\",\"identifier\":{\"type\":\"dns\",\"value\":\"A..b\"},\"type\":\"urn:ietf:params:acme:error:rejectedIdentifier\"}],\"type\":\"urn:ietf:params:acme:error:rejectedIdentifier\"}"
