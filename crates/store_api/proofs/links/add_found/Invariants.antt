use Rattle.std.proofs.Common.{◌≡◌, IfOk}
use Rattle.model_laws.specs.Placing.{puts}
use Rattle.store_api.proofs.links.add_found.Given as goal

abbrev pub invariant-loop-row : goal.invariant-loop-row
invariant-loop-row g l =
    IfOk l.fn.found (λ rows. puts g.R.Row.number l.row-iterator.rest.items l.table ≡ puts g.R.Row.number rows.items l.fn.table)
