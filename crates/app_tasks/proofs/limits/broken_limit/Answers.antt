use Rattle.std.proofs.Common.{◌∙◌, sym}
use Rattle.app_tasks.specs.GivenTerms.{terms_of}
use Rattle.app_tasks.proofs.Bases.{base_breaks}
use Rattle.app_tasks.proofs.limits.broken_limit.Goals as goal

pub returns-else-not-is_life-3 : goal.returns-else-not-is_life-3
returns-else-not-is_life-3 c =
    base_breaks (terms_of c.args.terms) (sym c.is_life.ensures ∙ c.if-not-is_life.false)
    (sym c.is_life-else-not-is_life.ensures ∙ c.if-not-is_life-2.false) (sym c.is_life-else-not-is_life-2.ensures ∙ c.if-not-is_life-3.false)
