use Rattle.std.proofs.Common.{arith, inl, inr}
use Rattle.sqlite.specs.{Held.state, State.HasCleanDisk}
use Rattle.sql_schema.proofs.StaysLemmas.{asks_then}
use Rattle.desk_store.proofs.EitherFormat.{back_asked, left_asked, no_desk_still, refused_so}
use Rattle.desk_store.proofs.{Books.always_ok, Openings.opens_behind, Failing.leaves_nothing, Failing.opened_nothing}
use Rattle.desk_store.proofs.opening.open_desk.Goals as goal

pub returns-in-Ok : goal.returns-in-Ok
returns-in-Ok g c =
    let old = state g.S.Store c.args.conn.now in
    let mid = state g.S.Store c.check_format.new.conn in
    let new = state g.S.Store c.open_known.new.conn in
    let asked = c.check_format.ensures.asks in
    let format = c.in-Ok.ensures in
    let opened = c.open_known.ensures in
    let there : HasCleanDisk new → HasCleanDisk mid = λ clean. let le = opened.opens.left.clean in omega (arith, clean, le) in
    record {
      idle = opened.idle;
      opens = opens_behind g.S.Store c.args.conn.now c.check_format.new.conn c.open_known.new.conn c.open_known.result asked format.unchanged
          opened.idle opened.opens;
      refused = refused_so c.open_known.result (λ no_desk. asks_then old mid new asked (opened.refused no_desk)) opened.no_newer;
      newer = λ clean newer. absurd (opened.no_newer newer);
      shows = λ clean. always_ok c.open_known.result (c.check_format.new.conn, format.shows (there clean));
      no_later = λ clean none. inl (c.check_format.new.conn, format.shows (there clean));
      no_desk = λ clean none. inr (no_desk_still g.S.Store c.args.conn.now c.check_format.new.conn (format.unchanged (there clean)).0.now_is
          (opened.no_desk clean none));
      later = λ clean later. absurd (format.later (there clean) later);
    }

pub returns-in-Err-clause-opens : goal.returns-in-Err-clause-opens
returns-in-Err-clause-opens g c =
    let old = state g.S.Store c.args.conn.now in
    let new = state g.S.Store c.check_format.new.conn in
    let format = c.in-Err.ensures in
    record {
      asks = λ uses. format.asks;
      unchanged = λ uses clean. tt;
      upgraded = λ clean. tt;
      back = back_asked old new format.asks;
      left = left_asked old new format.asks;
      spared = λ memory. format.asks.survives;
      whole = λ clean. tt;
      whole_first = λ clean. tt;
      desk = format.desk;
      first = format.first;
      failed = opened_nothing g.S.Store c.args.conn.now c.check_format.new.conn c.in-Err.fault (leaves_nothing old new format.asks.survives) format.met;
      answering = format.answering;
    }

pub returns-in-Err-clause-newer : goal.returns-in-Err-clause-newer
returns-in-Err-clause-newer g c clean newer = (c.check_format.new.conn, c.in-Err.ensures.newer clean newer)
