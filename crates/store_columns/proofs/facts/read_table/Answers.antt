use Rattle.std.specs.Vec.Iter.{into_iter_items}
use Rattle.store_columns.proofs.TableRows.{not_read}
use Rattle.store_columns.proofs.facts.read_table.Goals as goal

pub returns-in_default : goal.returns-in_default
returns-in_default g c =
    not_read g.C.Columns.write g.C.Columns.IsStored c.args.table c.loop-columns.yielded (into_iter_items c.loop-columns.columns-iterator)
    (into_iter_items c.next.new.self) c.loop-columns.rows.items c.in-Some.columns c.loop-columns.invariant c.in-Some.ensures.steps.0
    (rw c.in_default.is at c.in_ok-row.ensures)
