use Rattle.std.specs.Vec.Iter.{into_iter_items}
use Rattle.store_columns.proofs.TableRows.{IsReadSoFar}
use Rattle.store_columns.proofs.facts.read_table.Given as goal

abbrev pub invariant-loop-columns : goal.invariant-loop-columns
invariant-loop-columns g l = IsReadSoFar g.C.Columns.write g.C.Columns.IsStored l.fn.table l.yielded (into_iter_items l.columns-iterator) l.rows.items
