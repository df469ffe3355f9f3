-- Small words on options.
use Rattle.std.specs.Prelude.{Bool, Option, Some, None, cond}

-- the value that is there and passes
abbrev pub only : {X : Type 0} → (X → Bool) → Option X → Option X
only p None = None
only p (Some x) = cond (p x) (Some x) None
