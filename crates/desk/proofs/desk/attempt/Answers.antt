use Rattle.store_api.proofs.Readings.{unchanged_read}
use Rattle.desk.proofs.desk.attempt.Goals as goal

pub returns-clause-caused : goal.returns-clause-caused
returns-clause-caused g c =
    c.attempt_by-attempted.ensures.caused c.args.store.now (unchanged_read c.in_ok-part.ensures.loads.reads)

pub returns-clause-exit : goal.returns-clause-exit
returns-clause-exit g c =
    c.attempt_by-attempted.ensures.exit c.args.store.now c.in_ok-part.ensures.loads
