use Rattle.std.proofs.Common.{subst, List, ℕ}
use Rattle.desk_model.specs.KeyTexts.{HasOneNumber}
use Rattle.desk_model.proofs.Numbers.{IsNumberThen-unique}
use Rattle.desk_model.proofs.jwk.are_two_numbers.Goals as goal

pub returns-in-Some : goal.returns-in-Some
returns-in-Some c = (
  λ yes. (c.in-Some.rest.now, c.in-Some.ensures, c.has_one_number.ensures.0 yes),
  λ two. c.has_one_number.ensures.1 (subst (λ (l : List ℕ). HasOneNumber c.args.between.now l)
      (IsNumberThen-unique c.args.text.now _ _ two.1 c.in-Some.ensures) two.2),
)
