use Rattle.std.proofs.Common.{arith, inr}
use Rattle.sqlite.specs.{Held.state, State.HasCleanDisk}
use Rattle.sql_schema.proofs.StaysLemmas.{asks_then}
use Rattle.desk_store.proofs.{Books.may_read, FirstBooks.first_may_read, NothingWritten.same_fault}
use Rattle.desk_store.proofs.OpeningFaults.{failure_is_storage, no_desk_is_other, opening_met, reading_is_known}
use Rattle.desk_store.specs.Causes.{cause_of}
use Rattle.desk_store.proofs.opening.check_format.Goals as goal

pub returns-in-Err : goal.returns-in-Err
returns-in-Err g c =
    let old = state g.S.Store c.args.conn.now in
    let mid = state g.S.Store c.is_newer.new.conn in
    let new = state g.S.Store c.opening_fault.new.conn in
    let error = c.in-Err.error in
    let why = c.opening_fault.result in
    let fault = c.opening_fault.ensures in
    let there : HasCleanDisk new → HasCleanDisk mid = λ clean. let le = fault.asks.survives.clean in omega (arith, clean, le) in
    record {
      shows = λ clean. tt;
      newer = λ clean newer. absurd (reading_is_known (cause_of error) why fault.fault (same_fault _ _ newer));
      refused = λ clean none. record {
        after = c.is_newer.new.conn;
        error = error;
        refused = c.in-Err.ensures.refused (there clean);
        other = no_desk_is_other (cause_of error) why fault.fault (same_fault _ _ none);
      };
      unchanged = λ clean. tt;
      desk = λ clean T has. failure_is_storage error why (c.in-Err.ensures.fails (there clean) T has.desk.holds (may_read old T has)) fault.fault;
      first = λ clean T has.
          failure_is_storage error why (c.in-Err.ensures.first_fails (there clean) T has.desk.holds (first_may_read old T has)) fault.fault;
      later = λ clean later. inr (failure_is_storage error why (c.in-Err.ensures.later_fails (there clean) later.later later.may_read) fault.fault);
      met = λ clean. opening_met old mid new error why fault.fault (c.in-Err.ensures.met (there clean)) fault.asks;
      answering = λ clean memory. (fault.unchanged clean (same_fault _ _ memory)).0.is_open;
      asks = asks_then old mid new c.is_newer.ensures.asks fault.asks;
    }
