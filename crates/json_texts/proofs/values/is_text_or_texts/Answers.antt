use Rattle.std.proofs.Common.{◌∙◌, ap, sym}
use Rattle.json.specs.Value.{value_view}
use Rattle.std.specs.List.{list_all}
use Rattle.json_texts.specs.Objects.{is_text, is_text_or_texts}
use Rattle.json_texts.proofs.ReadObjects.{texts_told}
use Rattle.json_texts.proofs.values.is_text_or_texts.Goals as goal

pub returns-in-Object : goal.returns-in-Object
returns-in-Object c =
    c.are_texts.ensures ∙ ap (λ ms. list_all (λ m. is_text (value_view m.1)) ms) c.as_slice.ensures.value ∙ texts_told c.in-Object.members
    ∙ ap (λ v. is_text_or_texts (value_view v)) (sym c.in-Object.is)
