use Rattle.desk_store.proofs.Failing.{failed_to_save}
use Rattle.desk_store.proofs.opening.upgrade_with.Goals as goal

pub returns-in-Err-clause-failed : goal.returns-in-Err-clause-failed
returns-in-Err-clause-failed g c =
    failed_to_save g.S.Store _ _ c.args.conn.now c.upgrade-upgraded.new.conn c.saving_fault.new.conn
    c.in-Err.fault c.saving_fault.result c.saving_fault.ensures.fault c.in-Err.ensures.cause c.in-Err.ensures.before c.saving_fault.ensures.asks
    c.upgrade-upgraded.ensures.idle c.saving_fault.ensures.silent
