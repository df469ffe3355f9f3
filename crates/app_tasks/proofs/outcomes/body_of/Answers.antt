use Rattle.std.proofs.Common.{◌∙◌, sym}
use Rattle.app_tasks.proofs.Behind.{body_later}
use Rattle.app_tasks.proofs.outcomes.body_of.Goals as goal

-- the empty line is further behind
pub loop-at-preserved : goal.loop-at-preserved
loop-at-preserved c =
    body_later c.args.reply.now c.loop-at.at c.loop-at-test.true (sym c.starts_with.ensures.value ∙ c.if-starts_with.false) ∙ c.loop-at.invariant
