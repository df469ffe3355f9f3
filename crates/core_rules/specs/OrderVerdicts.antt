-- The verdict on what a new order asks for, as its payload was read.
use Rattle.std.specs.Prelude.{ℕ, List, []}
use Rattle.desk_model.specs.{Rules.wanted, Tables.Tables, declared.verdict.Verdict.Verdict}
use Rattle.desk_model.specs.declared.refusal.Refusal.TheVariants as refusal
use Rattle.desk_model.specs.declared.verdict.Verdict.TheVariants.{Orders as orders, Refused as refused}
use Rattle.identifiers.specs.declared.payloads.AskedOrder.{AskedOrder}
use Rattle.identifiers.specs.declared.payloads.AskedOrder.TheVariants as order

-- refused by its form or by its identifiers; else each name gets an authorization
abbrev pub order_verdict : Tables → List ℕ → ℕ → AskedOrder → Verdict
order_verdict T random n order.Malformed = refused refusal.Malformed []
order_verdict T random n (order.Faulty why subproblems) = refused why subproblems
order_verdict T random n (order.Names names) = orders n (wanted T n names random)
