use Rattle.core_rules.proofs.KeyVerdicts.{holder-ended, holder-valid}
use Rattle.core_rules.proofs.judging.key_verdict.Goals as goal
use Rattle.std.proofs.Common.{rules}

pub returns-then-not-is_valid : goal.returns-then-not-is_valid
returns-then-not-is_valid c = search (rules, holder-ended)

pub returns : goal.returns
returns c = search (rules, holder-valid)
