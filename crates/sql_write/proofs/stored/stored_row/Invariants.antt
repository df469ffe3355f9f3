use Rattle.std.proofs.Common.{◌≡◌, take}
use Rattle.std.specs.Prelude.{option_copied}
use Rattle.desk_model.specs.Change.{applied}
use Rattle.sql_write.proofs.stored.stored_row.Given as goal

abbrev pub invariant-loop-change : goal.invariant-loop-change
invariant-loop-change g l =
    option_copied l.found ≡ g.R.Stored.on (applied (take l.change-index l.before) l.fn.part) l.number
