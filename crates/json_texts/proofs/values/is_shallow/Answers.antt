use Rattle.std.proofs.Common.{◌∙◌, ap, sym}
use Rattle.json.specs.Value.{value_view}
use Rattle.std.specs.List.{list_all}
use Rattle.json_texts.specs.Objects.{is_shallow, is_text_or_texts}
use Rattle.json_texts.proofs.ReadObjects.{shallow_told}
use Rattle.json_texts.proofs.values.is_shallow.Goals as goal

pub returns-in-Object : goal.returns-in-Object
returns-in-Object c =
    c.are_shallow.ensures ∙ ap (λ ms. list_all (λ m. is_text_or_texts (value_view m.1)) ms) c.as_slice.ensures.value ∙ shallow_told c.in-Object.members
    ∙ ap (λ v. is_shallow (value_view v)) (sym c.in-Object.is)
