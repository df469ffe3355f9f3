use Rattle.json.specs.Value.{value_view}
use Rattle.json_texts.proofs.ReadObjects.{member_found}
use Rattle.json_texts.proofs.values.TextValueJsonValue.member.Goals as goal

pub returns : goal.returns
returns c = member_found (λ v. value_view v.now) c.get.result c.args.name.now (value_view c.args.self.now) c.get.ensures
