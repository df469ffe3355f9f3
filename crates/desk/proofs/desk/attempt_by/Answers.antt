use Rattle.desk.proofs.Exiting.{saved, unsaved}
use Rattle.desk.proofs.desk.attempt_by.Goals as goal

pub returns-in_err-save-clause-exit : goal.returns-in_err-save-clause-exit
returns-in_err-save-clause-exit g c was loads =
    let decision = c.in_ok-decision.decision in
    unsaved g.K.Kept.sight _ c.args.call.now was c.args.store.now c.save.new.self c.args.part.now decision.changes.items decision.reply
    c.in_err-save.field-0.0 _
    c.requires loads c.in_ok-decision.ensures.decided c.in_err-save.ensures.saves
    c.from_residual-in_err-save.ensures.1

pub returns-clause-exit : goal.returns-clause-exit
returns-clause-exit g c was loads =
    let decision = c.in_ok-decision.decision in
    saved g.K.Kept.sight c.args.call.now was c.args.store.now c.save.new.self c.args.part.now decision.changes.items decision.reply
    c.in_ok-save.field-0
    c.requires loads c.in_ok-decision.ensures.decided c.in_ok-save.ensures.saves
