use Rattle.std.proofs.Common.{◌∷◌, []}
use Rattle.desk_model.specs.declared.{entry.Entry.TheVariants.Spent as spent}
use Rattle.desk_core.proofs.decisions.begin_signed.Goals as goal

pub returns-clause-recorded : goal.returns-clause-recorded
returns-clause-recorded c =
    c.in_ok-issue.ensures.recorded c.args.moment c.args.book.now (spent c.args.serial ∷ [])
    (c.in_ok-spend.ensures.recorded c.args.moment c.args.book.now [] c.in_ok-recording.ensures.recorded)
