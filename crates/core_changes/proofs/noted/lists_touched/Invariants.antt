use Rattle.std.proofs.Common.{◌≡◌, drop}
use Rattle.desk_model.specs.{Derived.numbers_of, Entry.entry_of, Effect.lists_one, Effect.touches_authorization}
use Rattle.core_changes.proofs.noted.lists_touched.Given as goal

abbrev pub invariant-loop-place : goal.invariant-loop-place
invariant-loop-place l =
    lists_one (touches_authorization (entry_of l.motion)) l.book.authorizations (numbers_of (drop l.place-index l.listed))
    ≡ lists_one (touches_authorization (entry_of l.motion)) l.book.authorizations (numbers_of l.listed)
