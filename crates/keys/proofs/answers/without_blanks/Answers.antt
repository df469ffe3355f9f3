use Rattle.keys.proofs.Blanks.{IsBodyMatch-from_end}
use Rattle.keys.proofs.answers.without_blanks.Goals as goal
use Rattle.std.proofs.Common.{rules}

pub returns : goal.returns
returns c = search (rules, IsBodyMatch-from_end)
