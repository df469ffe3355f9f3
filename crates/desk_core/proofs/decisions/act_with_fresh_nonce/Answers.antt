use Rattle.std.proofs.Common.{◌∷◌, [], ap, ◌∙◌}
use Rattle.desk_model.specs.declared.entry.Entry.TheVariants.{Issued as issued, Spent as spent}
use Rattle.desk_model.specs.{Change.recorded_changes, Decide.entries_of}
use Rattle.core_changes.proofs.Moving.{untouched_nonces}
use Rattle.core_replies.proofs.Results.{ok_so}
use Rattle.desk_core.proofs.decisions.act_with_fresh_nonce.Goals as goal

pub returns-clause-changes : goal.returns-clause-changes
returns-clause-changes c =
    ok_so c.decision_of.result (λ o made ordered.
    made c.args.moment (spent c.args.serial) (issued c.in_ok-recording.bytes ∷ entries_of c.args.verdict)
    (c.in_ok-reply.ensures.recorded c.args.moment
    (spent c.args.serial ∷ issued c.in_ok-recording.bytes ∷ []) ordered
    (untouched_nonces c.args.moment c.args.book.now c.args.serial c.in_ok-recording.bytes)
    c.in_ok-recording.ensures.recorded)
    ∙ ap (λ r. recorded_changes c.args.moment c.args.book.now (spent c.args.serial ∷ issued r ∷ entries_of c.args.verdict)) c.in_ok-recording.ensures.bytes.0)
    c.decision_of.ensures.changes
