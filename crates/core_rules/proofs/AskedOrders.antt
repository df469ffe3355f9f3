-- The verdict on an order as it was read is that of the rules on its payload.
use Rattle.std.proofs.Common.{◌≡◌, ℕ, List, Bool, Option, arith, rules}
use Rattle.std.specs.Prelude.{if◌then◌else◌}
use Rattle.desk_model.specs.Rules.{new_order_verdict, order_of, subproblems, target_verdict}
use Rattle.desk_model.specs.{Tables.Tables, Verdict.check, Verdict.given, declared.call.Target.Target, declared.payload.Identifier.Identifier}
use Rattle.desk_model.specs.declared.call.Target.TheVariants as to
use Rattle.desk_model.specs.declared.refusal.Refusal.TheVariants as refusal
use Rattle.core_rules.specs.OrderVerdicts.{order_verdict}
use Rattle.identifiers.specs.{AskedOrders.order_by, AskedOrders.order_if, AskedOrders.target_order, declared.payloads.AskedOrder.AskedOrder}
use Rattle.identifiers.specs.declared.payloads.AskedOrder.TheVariants as order

by_length : (T : Tables) (random : List ℕ) (n : ℕ) (ids : List Identifier) (b : Bool) →
    order_verdict T random n (if b then order_by ids (subproblems ids) else order.Malformed)
    ≡ check b refusal.Malformed (order_of T random n ids (subproblems ids))
unfolding check
by_length T random n ids b = grind arith

by_form : (T : Tables) (random : List ℕ) (n : ℕ) (o : Option (List Identifier)) →
    order_verdict T random n (order_if o) ≡ given o refusal.Malformed (new_order_verdict T random n)
unfolding given
by_form T random n o = search (rules, by_length)

-- of a request for a new order
pub order_judged : (T : Tables) (random : List ℕ) (n : ℕ) (payload : List ℕ) (target : Target) (o : AskedOrder) → target ≡ to.NewOrder →
    o ≡ target_order target payload → order_verdict T random n o ≡ target_verdict T random n payload target
order_judged T random n payload target o is read = search (rules, by_form)
