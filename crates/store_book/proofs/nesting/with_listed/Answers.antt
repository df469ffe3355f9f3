use Rattle.std.proofs.Common.{List, refl, ◌∙◌}
use Rattle.desk_model.specs.declared.rows.{Listed.Listed, OrderRow.OrderRow}
use Rattle.store_book.specs.Nesting.{IsNesting, nested}
use Rattle.store_book.proofs.{NestedRows.nested-flat, Results.told_by}
use Rattle.store_book.proofs.nesting.with_listed.Goals as goal

pub returns : goal.returns
returns c =
    let with_children = λ (o : OrderRow) (ls : List Listed). record o { listed = ls } in
    let nests : IsNesting (λ (o : OrderRow). o.number) (λ o. o.listed) with_children =
    record { number_kept = λ p ts. refl; children_are = λ p ts. refl; last_are = λ p ts us. refl; same = λ p. refl } in
    told_by c.nest.result c.nest.ensures (λ all is rows up bare places.
    is
    ∙ (λ i. nested (λ (o : OrderRow). o.number) with_children (bare i) (places i))
    ∙ nested-flat (λ (o : OrderRow). o.number) (λ o. o.listed) with_children nests 1 rows up)
