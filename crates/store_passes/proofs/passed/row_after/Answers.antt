use Rattle.model_parts.specs.Above.{above}
use Rattle.store_passes.proofs.{Alls.books_in_order, Rows.row_is_after}
use Rattle.store_passes.proofs.passed.row_after.Goals as goal

-- the first of the rows above a number, and what is left behind it, where they stand by number
pub returns-clause-next : goal.returns-clause-next
returns-clause-next g c honest T holds =
    let ascends = g.met.R.PassedRow.ascends T (books_in_order T (g.met.S.RowsAbove.books c.args.source.now T holds)) in
    row_is_after g.R.Row.number c.args.above (g.R.PassedRow.rows T) c.in_ok-rows.rows.items c.first_above.result ascends c.first_above.ensures.first
    (c.in_ok-rows.ensures.found honest T holds)
