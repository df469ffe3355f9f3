use Rattle.std.proofs.Common.{◌≡◌, ◌++◌}
use Rattle.store_book.specs.Nesting.{nested}
use Rattle.store_book.proofs.nesting.nest.Given as goal

abbrev pub invariant-loop-parent : goal.invariant-loop-parent
invariant-loop-parent g l =
    l.rows.items ++ nested (λ r. g.P.Row.number r) g.P.Parent.with_children l.parent-iterator.rest.items l.rest.items
    ≡ nested (λ r. g.P.Row.number r) g.P.Parent.with_children l.fn.parents.items l.fn.children.items
