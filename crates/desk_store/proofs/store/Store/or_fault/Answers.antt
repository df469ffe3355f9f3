use Rattle.std.proofs.Common.{arith, subst}
use Rattle.std.specs.Prelude.{IfErr, OnOk}
use Rattle.sqlite.specs.{Held.state, State.HasCleanDisk, State.IsUnchanged}
use Rattle.sql_read.specs.LookUpFaults.{IsOfMemoryOrDisk}
use Rattle.desk_store.proofs.{Books.may_read, OpeningFaults.device_met, NothingWritten.reads_err, NothingWritten.reads_ok}
use Rattle.desk_store.proofs.store.Store.or_fault.Goals as goal

pub returns-in-Ok-clause-reads : goal.returns-in-Ok-clause-reads
returns-in-Ok-clause-reads g c was known asked same caused =
    reads_ok g.S.Store was c.args.self.now c.in-Ok.found known asked
    (λ clean. subst (λ r. OnOk r (IsUnchanged (state g.S.Store was.conn) (state g.S.Store c.args.self.now.conn))) c.in-Ok.is (same clean))

pub returns-in-Err-clause-reads : goal.returns-in-Err-clause-reads
returns-in-Err-clause-reads g c was known asked same caused =
    let old = state g.S.Store was.conn in
    let mid = state g.S.Store c.args.self.now.conn in
    let new = state g.S.Store c.reading_fault.new.conn in
    let tested = c.reading_fault.ensures.asks in
    reads_err g.S.Store was (record c.args.self.now { conn = c.reading_fault.new.conn }) c.args.self.now.conn
    c.reading_fault.result known asked tested c.reading_fault.ensures.unchanged c.reading_fault.ensures.silent
    (λ clean T held.
    let clean_mid : HasCleanDisk mid = omega (arith, clean, tested.survives.clean) in
    device_met old mid new c.in-Err.fault c.reading_fault.result
    (subst (λ r. IfErr r (IsOfMemoryOrDisk old mid)) c.in-Err.is (caused clean_mid T held.desk.desk.holds held.desk.desk.book (may_read old T held.desk)))
    c.reading_fault.ensures.fault tested)
