use Rattle.std.proofs.Common.{subst, List, ℕ}
use Rattle.desk_model.specs.KeyTexts.{IsNumberThen}
use Rattle.desk_model.proofs.Numbers.{IsNumberThen-unique}
use Rattle.desk_model.proofs.jwk.is_last_number.Goals as goal

pub returns-in-Some : goal.returns-in-Some
returns-in-Some c = (
  λ yes. subst (λ (l : List ℕ). IsNumberThen c.args.text.now l) (c.is_same_text.ensures.same.0 yes) c.in-Some.ensures,
  λ last. c.is_same_text.ensures.same.1 (IsNumberThen-unique c.args.text.now _ _ c.in-Some.ensures last),
)
