use Rattle.std.proofs.Common.{[]}
use Rattle.desk_model.specs.declared.entry.Entry.TheVariants.{Issued as issued}
use Rattle.core_replies.proofs.Results.{ok_so}
use Rattle.desk_core.proofs.decisions.issue.Goals as goal

pub returns-clause-changes : goal.returns-clause-changes
returns-clause-changes c =
    ok_so c.decision_of.result (λ o made.
    made c.args.moment (issued c.args.random) []
    (c.in_ok-issue.ensures.recorded c.args.moment c.args.book.now [] c.in_ok-recording.ensures.recorded))
    c.decision_of.ensures.changes
