use Rattle.desk_book.proofs.KeyedRows.{insert-put, IsKeyed-insert}
use Rattle.desk_book.proofs.table.Table.put.Goals as goal
use Rattle.std.proofs.Common.{rules}

pub invariant_of-self-2 : goal.invariant_of-self-2
invariant_of-self-2 g c = search (rules, IsKeyed-insert)

pub returns-clause-done : goal.returns-clause-done
returns-clause-done g c = search (rules, insert-put)
