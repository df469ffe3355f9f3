use Rattle.std.proofs.Common.{◌≡◌, IfOk, filter}
use Rattle.model_laws.specs.Placing.{puts}
use Rattle.desk_model.specs.Name.{same_name}
use Rattle.store_api.proofs.named.add_same.Given as goal

abbrev pub invariant-loop-row : goal.invariant-loop-row
invariant-loop-row l =
    IfOk l.fn.found (λ rows. puts (λ r. r.number) (filter (λ r. same_name r.name l.name) l.row-iterator.rest.items) l.table
    ≡ puts (λ r. r.number) (filter (λ r. same_name r.name l.name) rows.items) l.fn.table)
