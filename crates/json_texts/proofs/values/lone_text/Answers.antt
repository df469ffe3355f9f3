use Rattle.std.proofs.Common.{sym, ◌∙◌}
use Rattle.json_texts.proofs.PlainTexts.{lone-list}
use Rattle.json_texts.proofs.values.lone_text.Goals as goal

pub returns-then-is_plain : goal.returns-then-is_plain
returns-then-is_plain c = c.in_ok-text.ensures ∙ lone-list c.in_ok-text.text.now (sym c.is_plain.ensures ∙ c.if-is_plain.true)
