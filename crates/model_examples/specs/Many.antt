-- How many identifiers an order may have, and how some are refused (RFC 8555, 6.7.1, 7.4).
use Rattle.std.specs.Prelude.{ℕ, map, codes}
use Rattle.desk_model.specs.declared.call.Call.{Call}
use Rattle.desk_model.specs.declared.call.Target.TheVariants as to
use Rattle.model_examples.specs.{Computed.Refuses, Texts.malformed, Calls.account_desk, Calls.request, Fifty.names, Fifty.order_text}

-- an order of so many names
abbrev pub ordering : ℕ → Call
ordering count = request to.NewOrder (order_text (names count))

-- how many identifiers an order may have, and how some are refused
pub record IdentifiersAreCounted : Type 0 where
  -- one name more is malformed
  pub fifty_one_names : Refuses account_desk (ordering 51) 400 malformed
  -- identifiers are counted as they come: fifty-one of one name are too many
  pub one_name_too_often : Refuses account_desk (request to.NewOrder (order_text (map (λ name. codes "a.example") (names 51)))) 400 malformed
  -- ---- identifiers that are refused
  -- the first identifier that is refused gives the refusal, and each is listed
  pub two_faulty_identifiers : Refuses account_desk (request to.NewOrder (codes
      "{\"identifiers\":[{\"type\":\"ip\",\"value\":\"a.example\"},{\"type\":\"dns\",\"value\":\"a..b\"},{\"type\":\"dns\",\"value\":\"c.example\"}]}")) 400
      (codes "{\"detail\":\"the identifier type is not supported\",\"status\":400,\"subproblems\":[{\"detail\":\"the identifier type is not supported\",\"identifier\":{\"type\":\"ip\",\"value\":\"a.example\"},\"type\":\"urn:ietf:params:acme:error:unsupportedIdentifier\"},{\"detail\":\"the name is not accepted\",\"identifier\":{\"type\":\"dns\",\"value\":\"a..b\"},\"type\":\"urn:ietf:params:acme:error:rejectedIdentifier\"}],\"type\":\"urn:ietf:params:acme:error:unsupportedIdentifier\"}")
  -- a name that is none
  pub faulty_name :
      Refuses account_desk (request to.NewOrder (codes "{\"identifiers\":[{\"type\":\"dns\",\"value\":\"c.example\"},{\"type\":\"dns\",\"value\":\"*\"}]}")) 400
      (codes "{\"detail\":\"the name is not accepted\",\"status\":400,\"subproblems\":[{\"detail\":\"the name is not accepted\",\"identifier\":{\"type\":\"dns\",\"value\":\"*\"},\"type\":\"urn:ietf:params:acme:error:rejectedIdentifier\"}],\"type\":\"urn:ietf:params:acme:error:rejectedIdentifier\"}")
