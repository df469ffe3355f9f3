use Rattle.std.proofs.Common.{Err, subst}
use Rattle.desk.specs.Office.{AnswersOffice}
use Rattle.desk_model.specs.declared.call.OfficeAsk.{OfficeAsk}
use Rattle.app_tasks.proofs.Done.{not_revoked}
use Rattle.app_tasks.proofs.revoking.Revoke.revoke.Goals as goal

pub returns-in_err-refusal : goal.returns-in_err-refusal
returns-in_err-refusal g c =
    let at = c.args.self.now.at in
    let answers : OfficeAsk → Type 0 = λ ask. AnswersOffice g.K.Kept.sight at ask c.args.desk.now.store c.answer_office.new.self.store
    (Err c.in_err-refusal.field-0.0) in
    not_revoked g.K.Kept.sight c.args.self.now.target at c.args.desk.now c.answer_office.new.self c.in_err-refusal.field-0.0
    c.from_residual.result (subst answers c.ask_of.ensures (c.in_err-refusal.ensures.exit c.requires.opened))
    (c.in_err-refusal.ensures.flag c.requires.opened) c.in_err-refusal.ensures.policy c.from_residual.ensures.1
