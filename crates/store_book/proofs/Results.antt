-- What follows of an answer.
use Rattle.std.proofs.Common.{Result, rules}
use Rattle.std.specs.Prelude.{IfOk}

-- of what was told
pub told_by : {A E : Type 0} {P Q : A → Type 0} (r : Result A E) → IfOk r P → ((a : A) → P a → Q a) → IfOk r Q
told_by r h k = search rules
