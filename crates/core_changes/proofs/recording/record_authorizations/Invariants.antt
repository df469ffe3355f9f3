use Rattle.std.proofs.Common.{◌≡◌, ◌++◌, map}
use Rattle.desk_model.specs.declared.rows.Change.TheVariants.{PutAuthorization}
use Rattle.core_changes.proofs.recording.record_authorizations.Given as goal

abbrev pub invariant-loop-row : goal.invariant-loop-row
invariant-loop-row l = l.changes.items ≡ l.fn.changes.items ++ map PutAuthorization l.yielded
