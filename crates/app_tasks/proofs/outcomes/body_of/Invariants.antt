use Rattle.std.proofs.Common.{◌≡◌, drop}
use Rattle.app_tasks.specs.Outcomes.{body_of}
use Rattle.app_tasks.proofs.outcomes.body_of.Given as goal

abbrev pub invariant-loop-at : goal.invariant-loop-at
invariant-loop-at l = body_of (drop l.at l.reply) ≡ body_of l.reply
