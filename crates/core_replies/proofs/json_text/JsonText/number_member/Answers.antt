use Rattle.std.proofs.Common.{arith}
use Rattle.serde_json.specs.Data.{number, unsigned}
use Rattle.core_replies.proofs.{Results.on_ok, Writing.number_back, Writing.one_member}
use Rattle.core_replies.proofs.json_text.JsonText.number_member.Goals as goal

pub returns : goal.returns
returns c =
    on_ok c.number_token.result
    (λ written. one_member c.args.name.now (number (unsigned c.args.value)) c.in_ok-name.ensures written (number_back c.args.value (omega arith)))
    c.number_token.ensures
