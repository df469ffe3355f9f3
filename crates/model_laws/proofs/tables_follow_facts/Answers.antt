use Rattle.model_laws.proofs.Step.{sweep, step, steps, picture_more}
use Rattle.model_laws.proofs.tables_follow_facts.Goals as goal

pub returns : goal.returns
returns c = record { sweep = sweep; step = step; steps = steps; picture = picture_more }
