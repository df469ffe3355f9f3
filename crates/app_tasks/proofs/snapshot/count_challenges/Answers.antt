use Rattle.std.proofs.Common.{count_by, ◌∙◌}
use Rattle.desk_model.specs.Authorization.{is_pending}
use Rattle.store_api.proofs.Readings.{reads_unchanged, unchanged_read}
use Rattle.store_columns.specs.declared.columns.JoinedChallenge.{JoinedChallenge}
use Rattle.app_tasks.proofs.Pending.{waiting_counted}
use Rattle.app_tasks.proofs.snapshot.count_challenges.Goals as goal

pub returns-clause-reads : goal.returns-clause-reads
returns-clause-reads g c = reads_unchanged _ tt (unchanged_read c.in_ok-waiting.ensures.reads)

pub returns-clause-found : goal.returns-clause-found
returns-clause-found g c honest T held ordered =
    let all = c.in_ok-waiting.ensures.found honest T held ordered in
    c.count_pending.ensures
    ∙ (λ i. count_by (λ (w : JoinedChallenge). is_pending w.authorization.status) (c.as_slice.ensures.value i))
    ∙ waiting_counted T c.in_ok-waiting.waiting.items all.0 all.1
