use Rattle.std.proofs.Common.{◌≡◌, ◌++◌, map, filter}
use Rattle.desk_model.specs.Change.{moved_rows}
use Rattle.core_changes.proofs.moved.record_moved.Given as goal

abbrev pub invariant-loop-row : goal.invariant-loop-row
invariant-loop-row g l =
    (l.changes.items ++ map g.R.Movable.puts (moved_rows (g.R.Movable.touched l.step) g.R.Movable.differs (g.R.Movable.stated l.step)
    (map (g.R.Movable.swept l.step) l.row-iterator))
    ≡ l.fn.changes.items ++ map g.R.Movable.puts (moved_rows (g.R.Movable.touched l.step) g.R.Movable.differs (g.R.Movable.stated l.step)
    (map (g.R.Movable.swept l.step) l.table)))
    × (l.rows.items ++ map (g.R.Movable.stated l.step) (filter (g.R.Movable.touched l.step) (map (g.R.Movable.swept l.step) l.row-iterator))
    ≡ l.fn.rows.items ++ map (g.R.Movable.stated l.step) (filter (g.R.Movable.touched l.step) (map (g.R.Movable.swept l.step) l.table)))
