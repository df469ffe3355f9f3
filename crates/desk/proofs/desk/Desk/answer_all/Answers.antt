use Rattle.std.proofs.Common.{◌≡◌, ◌++◌, ◌∷◌, [], ap, ◌∙◌, rules}
use Rattle.desk.proofs.Running.{answers_more, take_one_more}
use Rattle.desk.proofs.desk.Desk.answer_all.Goals as goal

pub loop-call-preserved : goal.loop-call-preserved
loop-call-preserved g c =
    let pushed : c.push.new.self.items ≡ c.loop-call.replies.items ++ c.in-Ok.reply ∷ [] = (rw c.unwrap.ensures at c.push.ensures.items)
    ∙ ap (λ l. l ++ c.in-Ok.reply ∷ []) c.reserve.ensures.items in
    let counted = c.loop-call.invariant.counted in
    let opened = c.loop-call.invariant.opened in
    let taken = take_one_more c.args.calls.now c.loop-call.call-index c.call-item.result c.loop-call-test.true c.call-item.is in
    search (rules, answers_more)
