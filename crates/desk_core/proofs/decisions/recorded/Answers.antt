use Rattle.std.proofs.Common.{[], ap, sym, ◌∙◌}
use Rattle.desk_model.specs.Change.{recorded_changes}
use Rattle.desk_core.proofs.ActingRows.{same_entries}
use Rattle.core_changes.proofs.Moving.{untouched_none}
use Rattle.core_replies.proofs.Results.{ok_so}
use Rattle.desk_core.proofs.decisions.recorded.Goals as goal

pub returns-clause-changes : goal.returns-clause-changes
returns-clause-changes c =
    ok_so c.decision_of.result (λ o made ordered e es is.
    made c.args.moment e es
    (same_entries c.args.moment c.args.book.now is
    (c.in_ok-reply.ensures.recorded c.args.moment [] ordered
    (untouched_none c.args.moment c.args.book.now) c.in_ok-recording.ensures.recorded))
    ∙ ap (recorded_changes c.args.moment c.args.book.now) (sym is))
    c.decision_of.ensures.changes
