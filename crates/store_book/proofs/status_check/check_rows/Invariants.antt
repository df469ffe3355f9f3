use Rattle.std.proofs.Common.{◌≡◌, ◌++◌}
use Rattle.std.specs.List.{flat_map}
use Rattle.store_book.proofs.status_check.check_rows.Given as goal

abbrev pub invariant-loop-row : goal.invariant-loop-row
invariant-loop-row g l =
    l.faults.items ++ flat_map (g.R.StoresStatus.faults_of l.book) l.row-iterator
    ≡ l.fn.faults.items ++ flat_map (g.R.StoresStatus.faults_of l.book) l.rows
