use Rattle.std.proofs.Common.{◌≡◌, ◌++◌, drop}
use Rattle.desk_model.specs.Derived.{numbers_of, stored_statuses}
use Rattle.core_changes.specs.Moved.{stepped_rows}
use Rattle.core_changes.proofs.moved.statuses_after.Given as goal

abbrev pub invariant-loop-listed : goal.invariant-loop-listed
invariant-loop-listed l =
    l.statuses.items ++ stored_statuses (stepped_rows l.step) (numbers_of (drop l.listed-index l.listed))
    ≡ stored_statuses (stepped_rows l.step) (numbers_of l.listed)
