use Rattle.json_texts.proofs.EachIn.{each_in-none, each_in-last}
use Rattle.identifiers.proofs.payloads.identifiers.Goals as goal
use Rattle.std.proofs.Common.{rules}

pub returns-in_default : goal.returns-in_default
returns-in_default c = search (rules, each_in-none)

pub loop-item-preserved : goal.loop-item-preserved
loop-item-preserved c = search (rules, each_in-last)
