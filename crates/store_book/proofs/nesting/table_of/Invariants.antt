use Rattle.std.proofs.Common.{◌≡◌, []}
use Rattle.model_laws.specs.Placing.{puts}
use Rattle.store_book.proofs.nesting.table_of.Given as goal

abbrev pub invariant-loop-row : goal.invariant-loop-row
invariant-loop-row g l = puts (λ r. g.R.Row.number r) l.row-iterator.rest.items l.table ≡ puts (λ r. g.R.Row.number r) l.fn.rows.items []
