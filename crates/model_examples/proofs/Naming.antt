-- One name to unfold where a name is computed from a text that is written out.
use Rattle.std.specs.Prelude.{⊤}
use Rattle.idna.proofs.Computing.{idna}
use Rattle.desk_model.specs.Names.{name_of}

unfoldable pub naming : ⊤
unfolding idna name_of
naming = tt
