-- What the payload of a newOrder asks for, as its identifiers are read once for the whole call (RFC 8555, 7.4).
use Rattle.std.specs.Prelude.{ℕ, ◌≡◌, List, [], ◌∷◌, Option, Some, None, if◌then◌else◌, option_map}
use Rattle.desk_model.specs.{Legal.has_length, Limits.most_names, Name.Name, Payload.new_order, Rules.kept, Rules.names_in, Rules.subproblems}
use Rattle.desk_model.specs.{declared.payload.Identifier.Identifier, declared.call.Target.Target, declared.reply.Subproblem.Subproblem}
use Rattle.desk_model.specs.declared.call.Target.TheVariants as to
use Rattle.serde_json.specs.{Read.read, View.view, declared.value.Value.Value}
use Rattle.identifiers.specs.declared.payloads.AskedOrder.{AskedOrder}
use Rattle.identifiers.specs.declared.payloads.AskedOrder.TheVariants as order

-- the value was read in the text
abbrev pub IsValueOf : List ℕ → Option Value → Type 0
IsValueOf text value = option_map (λ v. view v) value ≡ read text

-- refused by the first identifier that is, with all of them listed; else the names, each once
abbrev pub order_by : List Identifier → List Subproblem → AskedOrder
order_by ids (s ∷ ss) = order.Faulty s.refusal (s ∷ ss)
order_by ids [] = order.Names (kept (names_in ids))

-- of one to fifty identifiers
abbrev pub order_of : List Identifier → AskedOrder
order_of ids = if has_length 1 most_names ids then order_by ids (subproblems ids) else order.Malformed

abbrev pub order_if : Option (List Identifier) → AskedOrder
order_if None = order.Malformed
order_if (Some ids) = order_of ids

abbrev pub asked_order : List ℕ → AskedOrder
asked_order payload = order_if (new_order payload)

-- of a request to a target: no order, where it is sent elsewhere
abbrev pub target_order : Target → List ℕ → AskedOrder
target_order to.NewOrder payload = asked_order payload
target_order _ payload = order.Malformed

-- the names of an order that is made
abbrev pub order_names : AskedOrder → Option (List Name)
order_names (order.Names names) = Some names
order_names _ = None
