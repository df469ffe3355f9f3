use Rattle.std.proofs.Common.{◌≡◌}
use Rattle.std.specs.{Prelude.Ok, List.flat_map}
use Rattle.store_api.specs.{Finding.Finds, Needing.lacking}
use Rattle.desk_model.specs.declared.rows.{AccountRow.AccountRow, OrderRow.OrderRow}
use Rattle.model_parts.specs.LookUps.{summaries_of}
use Rattle.store_api.proofs.minimal_part.add_summaries.Given as goal

abbrev pub invariant-loop-account : goal.invariant-loop-account
invariant-loop-account g l =
    Finds g.S.Kept.sight {A = Unit {0}} l.fn.source l.source (Ok tt) (λ T.
    lacking (λ (o : OrderRow). o.number) (flat_map (λ (x : AccountRow). summaries_of T x.number) l.account-iterator) l.orders
    ≡ lacking (λ (o : OrderRow). o.number) (flat_map (λ (x : AccountRow). summaries_of T x.number) l.accounts) l.fn.orders)
