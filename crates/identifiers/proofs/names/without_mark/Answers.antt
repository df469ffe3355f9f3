use Rattle.identifiers.proofs.NameOf.{name_of-marked, name_of-unmarked}
use Rattle.identifiers.proofs.names.without_mark.Goals as goal
use Rattle.std.proofs.Common.{rules}

pub returns-in-Some : goal.returns-in-Some
returns-in-Some c = search (rules, name_of-marked)

pub returns-in-None : goal.returns-in-None
returns-in-None c = name_of-unmarked c.args.text.now c.in-None.ensures.cases
