use Rattle.std.proofs.{Common.sym, Common.subst, Common.◌∙◌, lemmas.Result.IfOk-weaker}
use Rattle.desk_model.specs.Moment.{IsMomentText}
use Rattle.moments.proofs.{Texts.moment_text-IsMomentText, Written.datetime_written}
use Rattle.moments.proofs.moment_text.Goals as goal

pub returns-clause-civil : goal.returns-clause-civil
returns-clause-civil c =
    let civil = datetime_written c.datetime_of-datetime.result c.args.moment c.datetime_of-datetime.ensures in
    IfOk-weaker c.format.result _ _ (λ text whole. subst (IsMomentText c.args.moment) (sym whole) civil) c.format.ensures.ok

pub returns-clause-value : goal.returns-clause-value
returns-clause-value c =
    let civil = datetime_written c.datetime_of-datetime.result c.args.moment c.datetime_of-datetime.ensures in
    IfOk-weaker c.format.result _ _ (λ text whole. whole ∙ moment_text-IsMomentText c.args.moment _ civil) c.format.ensures.ok
