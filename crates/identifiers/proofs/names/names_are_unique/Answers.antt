use Rattle.identifiers.proofs.NameOf.{name_of-finds}
use Rattle.identifiers.proofs.names.names_are_unique.Goals as goal

pub returns-clause-found : goal.returns-clause-found
returns-clause-found c = name_of-finds
