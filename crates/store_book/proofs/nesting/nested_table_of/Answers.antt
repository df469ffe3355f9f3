use Rattle.std.proofs.Common.{◌∙◌, subst, sym}
use Rattle.model_laws.specs.Ordered.{Ascends}
use Rattle.store_book.proofs.{NestedRows.nested_up, Nests.sorted-flat, Results.told_by}
use Rattle.store_book.proofs.nesting.nested_table_of.Goals as goal

pub table_of-requires : goal.table_of-requires
table_of-requires g c =
    subst (Ascends (λ r. g.P.Row.number r) 1) (sym c.in_ok-rows.ensures)
    (nested_up (λ r. g.P.Row.number r) g.P.Parent.children g.P.Parent.with_children g.met.P.Parent.nests 1 c.args.parents.items
    c.sort_by_owner.new.rows.items c.requires)

pub returns : goal.returns
returns g c =
    told_by c.table_of.result c.table_of.ensures (λ table is rows nest. is ∙ c.in_ok-rows.ensures
    ∙ sorted-flat (λ r. g.P.Row.number r) g.P.Parent.children g.P.Parent.with_children (λ t. g.T.Row.number t) g.met.P.Parent.nests
    c.args.parents.items c.args.children.items c.sort_by_owner.new.rows.items rows c.requires c.sort_by_owner.ensures.permutation
    c.sort_by_owner.ensures.sorted nest)
