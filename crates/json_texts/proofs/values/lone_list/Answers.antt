use Rattle.std.proofs.{Common.◌∙◌, lemmas.Result.IfOk-weaker}
use Rattle.json_texts.proofs.PlainTexts.{lone-list}
use Rattle.json_texts.proofs.values.lone_list.Goals as goal

pub returns : goal.returns
returns c = IfOk-weaker c.format.result _ _ (λ s same. same ∙ lone-list c.args.text.now c.requires) c.format.ensures.ok
