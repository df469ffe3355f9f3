use Rattle.std.proofs.Common.{◌≡◌, IfOk}
use Rattle.store_api.specs.Needing.{lacking}
use Rattle.store_api.proofs.links.add_lacking.Given as goal

abbrev pub invariant-loop-row : goal.invariant-loop-row
invariant-loop-row g l =
    IfOk l.fn.found (λ rows. lacking g.R.Row.number l.row-iterator.rest.items l.table ≡ lacking g.R.Row.number rows.items l.fn.table)
