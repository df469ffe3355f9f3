use Rattle.std.specs.Prelude.{refl}
use Rattle.model_examples.proofs.texts.names_are_read.Goals as goal
use Rattle.model_examples.proofs.{Naming.naming, PlainNames.plain_name}
use Rattle.model_examples.specs.NameTexts.{FalsePunycode, Books, IdeographicStop, WildcardShown}

-- these are not plain, and IDNA computes them
by_idna : FalsePunycode × (Books × (IdeographicStop × WildcardShown))
unfolding naming
by_idna = (refl, (refl, (refl, refl)))

pub returns : goal.returns
returns c = search (plain_name, by_idna)
