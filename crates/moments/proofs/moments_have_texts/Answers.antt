use Rattle.moments.proofs.Texts.{IsMomentText-tells, moment_text-IsMomentText}
use Rattle.moments.proofs.moments_have_texts.Goals as goal

pub returns-clause-gives : goal.returns-clause-gives
returns-clause-gives c = moment_text-IsMomentText

pub returns-clause-apart : goal.returns-clause-apart
returns-clause-apart c = IsMomentText-tells
