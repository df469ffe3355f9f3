use Rattle.std.proofs.Common.{Some, sym, ap, ◌∙◌}
use Rattle.serde_json.specs.{Data.object, Read.read, View.members_view}
use Rattle.serde_json.proofs.Views.{view-Object}
use Rattle.json_texts.proofs.ShortTexts.{read-nothing, read-empty_object}
use Rattle.json_texts.proofs.values.value_of.Goals as goal

pub returns-then-is_same_text : goal.returns-then-is_same_text
returns-then-is_same_text c = sym (ap read (c.is_same_text.ensures.same.0 c.if-is_same_text.true) ∙ read-nothing)

pub returns-then-is_same_text-2 : goal.returns-then-is_same_text-2
returns-then-is_same_text-2 c =
    ap Some (view-Object c.new.result ∙ ap (λ es. object (members_view es)) c.new.ensures.empty)
    ∙ sym (ap read (c.is_same_text-2.ensures.same.0 c.if-is_same_text-2.true) ∙ read-empty_object)
