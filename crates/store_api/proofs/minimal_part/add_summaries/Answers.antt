use Rattle.std.proofs.Common.{ap, sym, ◌∙◌}
use Rattle.std.specs.List.{flat_map}
use Rattle.store_api.proofs.{Found.fails_behind, Found.finds_as, Found.finds_into, Found.finds_then, Lacking.lacking_append}
use Rattle.store_api.proofs.minimal_part.add_summaries.Goals as goal
use Rattle.store_api.specs.Needing.{lacking}
use Rattle.desk_model.specs.declared.rows.{AccountRow.AccountRow, OrderRow.OrderRow}
use Rattle.model_parts.specs.LookUps.{summaries_of}

pub loop-account-preserved : goal.loop-account-preserved
loop-account-preserved g c =
    let number = λ (o : OrderRow). o.number in
    let account = c.in-Some.account.now.number in
    finds_then _ c.loop-account.invariant
    (finds_as c.in_ok-add_lacking.was
    (finds_into (lacking number) (λ rows. rows.items) (λ T. summaries_of T account) _ _
    c.summaries_of.ensures c.add_lacking.ensures.put c.add_lacking.ensures.lacks c.add_lacking.ensures.fails))
    (λ T so_far put_now.
    let own = flat_map (λ (x : AccountRow). summaries_of T x.number) in
    ap (lacking number (own c.next.new.self)) put_now
    ∙ sym (lacking_append number (summaries_of T account) (own c.next.new.self) c.loop-account.orders)
    ∙ ap (λ rows. lacking number (own rows) c.loop-account.orders) (sym c.in-Some.ensures.steps)
    ∙ so_far)

pub returns-in_err-add_lacking : goal.returns-in_err-add_lacking
returns-in_err-add_lacking g c =
    let number = λ (o : OrderRow). o.number in
    fails_behind _ c.loop-account.invariant
    (finds_as c.in_err-add_lacking.was
    (finds_into (lacking number) (λ rows. rows.items) (λ T. summaries_of T c.in-Some.account.now.number) _ _
    c.summaries_of.ensures c.add_lacking.ensures.put c.add_lacking.ensures.lacks c.add_lacking.ensures.fails))
    c.from_residual.ensures.1
