use Rattle.desk_model.specs.Change.{remove}
use Rattle.desk_book.proofs.KeyedRows.{remove-remove, IsKeyed-remove}
use Rattle.desk_book.proofs.table.Table.remove.Goals as goal
use Rattle.std.proofs.Common.{rules}

pub invariant_of-self : goal.invariant_of-self
invariant_of-self g c = rw c.remove.ensures.entries (IsKeyed-remove g.R.Row.number c.args.number c.self.inside.rows.entries c.self.invariant)

pub returns : goal.returns
returns g c = search (rules, remove-remove)
