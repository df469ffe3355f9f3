use Rattle.std.proofs.Common.{subst, sym}
use Rattle.sqlite.specs.Held.{state}
use Rattle.desk_store.specs.Known.{IsKnownOf}
use Rattle.desk_store.proofs.{Failing.failed_to_save, Knowing.nothing_known, SavedDesks.saves_err, SavedDesks.saves_ok}
use Rattle.desk_store.proofs.store.Store.save.Goals as goal

pub returns-in-Ok-clause-saves : goal.returns-in-Ok-clause-saves
returns-in-Ok-clause-saves g c =
    saves_ok g.S.Store c.args.part.now c.args.changes.now c.args.self.now (record { conn = c.save_all.new.conn; known = c.follow.new.self })
    c.follow.ensures c.save_all.ensures.idle c.save_all.ensures.left c.in-Ok.ensures.ok

pub returns-in-Err-clause-saves : goal.returns-in-Err-clause-saves
returns-in-Err-clause-saves g c =
    saves_err g.S.Store c.args.part.now c.args.changes.now c.args.self.now (record { conn = c.saving_fault.new.conn; known = c.nothing.result })
    (state g.S.Store c.save_all.new.conn)
    c.saving_fault.result c.in-Err.fault
    (λ T. subst (λ k. IsKnownOf k T) (sym c.nothing.ensures) (nothing_known T))
    c.save_all.ensures.idle
    c.save_all.ensures.left c.in-Err.ensures.err c.in-Err.ensures.before
    c.saving_fault.ensures.asks c.saving_fault.ensures.unchanged c.saving_fault.ensures.early

pub returns-in-Err-clause-failed : goal.returns-in-Err-clause-failed
returns-in-Err-clause-failed g c idle =
    failed_to_save g.S.Store _ _ c.args.self.now.conn c.save_all.new.conn c.saving_fault.new.conn
    c.in-Err.fault c.saving_fault.result c.saving_fault.ensures.fault c.in-Err.ensures.cause c.in-Err.ensures.before c.saving_fault.ensures.asks
    c.save_all.ensures.idle c.saving_fault.ensures.silent
