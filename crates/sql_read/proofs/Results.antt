-- Results, and tests.
use Rattle.std.proofs.Common.{◌≡◌, Bool, false, IsTrue, IfErr, IfOk, IfSome, IsErrAnd, MatchOption, OnOk, Option, None, Result, arith, rules}
use Rattle.sqlite.specs.State.{State, IsUnchanged}

-- what is so of a result says more
pub read_then : {A E : Type 0} (r : Result A E) {P Q : A → Type 0} → IfOk r P → ((a : A) → P a → Q a) → IfOk r Q
read_then r h k = search rules

-- so is what is so of what was found
pub found_then : {A : Type 0} (found : Option A) {P Q : A → Type 0} → IfSome found P → ((a : A) → P a → Q a) → IfSome found Q
found_then found h k = search rules

-- what two clauses say of a result
pub read_both : {A E : Type 0} (r : Result A E) {P Q R : A → Type 0} → IfOk r P → IfOk r Q → ((a : A) → P a → Q a → R a) → IfOk r R
read_both r h k l = search rules

-- what is so of what was found, or where nothing was
pub found_or : {A : Type 0} (N : Type 0) (P : A → Type 0) (found : Option A) → IfSome found P → (found ≡ None → N) → MatchOption found N P
found_or N P found h k = search rules

-- says more of either
pub either_then : {A : Type 0} (found : Option A) {N M : Type 0} {P Q : A → Type 0} → MatchOption found N P → (N → M) → ((a : A) → P a → Q a)
    → MatchOption found M Q
either_then found h k l = search rules

-- where nothing was found
pub none_said : {A : Type 0} (N : Type 0) (P : A → Type 0) (found : Option A) → MatchOption found N P → found ≡ None → N
none_said N P found h k = search rules

-- what a failure of a result says
pub fails_then : {A E : Type 0} (r : Result A E) {P Q : E → Type 0} → IfErr r P → ((e : E) → P e → Q e) → IfErr r Q
fails_then r h k = search rules

-- under a condition
pub fails_under : {A E : Type 0} (r : Result A E) {C : Type 0} (Q : E → Type 0) → (C → IfErr r Q) → IfErr r (λ e. C → Q e)
fails_under r Q h = search rules

-- an error that is passed on
pub failed_as : {A E : Type 0} (r : Result A E) (e : E) (Q : E → Type 0) → Q e → IsErrAnd r (λ x. x ≡ e) → IfErr r Q
failed_as r e Q h k = search rules

-- one call after another that was answered changed nothing
pub unchanged_after : {A E : Type 0} (r : Result A E) (a b c : State) → IsUnchanged a b → (IsTrue b.is_open → OnOk r (IsUnchanged b c)) → OnOk r
    (IsUnchanged a c)
unchanged_after r a b c h k = grind arith

-- a test that does not hold
pub not_true : (b : Bool) → ¬ IsTrue b → b ≡ false
not_true b h = search rules

-- one that cannot fail to hold
pub surely : (b : Bool) → ¬ (b ≡ false) → IsTrue b
surely b h = search rules
