-- What follows of a result where a step went well.
use Rattle.std.proofs.Common.{Result, IfOk, OnOk, rules}

-- what follows of what is given
pub ok_so : {X E : Type 0} {P Q : X → Type 0} (r : Result X E) → ((x : X) → P x → Q x) → IfOk r P → IfOk r Q
ok_so r h k = search rules

-- what follows where a step went well
pub on_ok : {X E : Type 0} {P Q : Type 0} (r : Result X E) → (P → Q) → OnOk r P → OnOk r Q
on_ok r h k = search rules
