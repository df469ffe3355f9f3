use Rattle.std.proofs.Common.{◌==◌, ◌||◌, sym, ap, ◌∙◌}
use Rattle.std.specs.List.{list_any}
use Rattle.model_laws.proofs.Basics.{any_or}
use Rattle.core_rules.proofs.accounts.has_many_or_fields.Goals as goal

pub returns-else-contains : goal.returns-else-contains
returns-else-contains c =
    c.contains-else-contains.ensures.value
    ∙ sym (any_or (λ b. b == 63) (λ b. b == 44) c.args.address.now
    ∙ ap (λ d. d || list_any (λ b. b == 44) c.args.address.now) (sym c.contains.ensures.value ∙ c.if-contains.false))
