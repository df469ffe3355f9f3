use Rattle.std.proofs.Common.{◌≡◌, ◌++◌, map}
use Rattle.desk_model.specs.Legal.{wanted_name}
use Rattle.desk_core.proofs.acts.names_of.Given as goal

abbrev pub invariant-loop-one : goal.invariant-loop-one
invariant-loop-one l = l.names.items ++ map wanted_name l.one-iterator.rest.items ≡ map wanted_name l.fn.wanted.items
