use Rattle.std.proofs.Common.{ap, subst, sym}
use Rattle.sqlite.specs.{Effect.Database, Held.state}
use Rattle.desk_store.specs.{Desks.IsDesk, Known.IsKnownOf}
use Rattle.desk_store.proofs.{EitherFormat.keeps_second, EitherFormat.uses_keys, Knowing.nothing_known, NothingWritten.desk_unchanged, NothingWritten.failed}
use Rattle.desk_store.proofs.store.Store.open.Goals as goal

pub returns-in-Ok-clause-kept : goal.returns-in-Ok-clause-kept
returns-in-Ok-clause-kept g c clean T has =
    let old = state g.S.Store c.args.conn in
    let new = state g.S.Store c.open_desk.new.conn in
    let uses = uses_keys old.now.schema has.desk.holds.schema in
    let desk = desk_unchanged old new T c.open_desk.ensures.opens.left.limit (c.in-Ok.ensures.opens.unchanged uses clean) has in
    record {
      tables = record { desk = desk; known = subst (λ k. IsKnownOf k T) (sym c.nothing.ensures) (nothing_known T) };
      left = λ trees may. (
        new.committed,
        g.met.S.Store.settled c.open_desk.new.conn.store trees desk.is_open may,
        subst
            (λ (db : Database). IsDesk db T) desk.settled desk.desk,
      );
    }

pub returns-in-Ok-clause-upgraded : goal.returns-in-Ok-clause-upgraded
returns-in-Ok-clause-upgraded g c clean T has =
    keeps_second g.S.Store (state g.S.Store c.args.conn) (record { conn = c.open_desk.new.conn; known = c.nothing.result }) T
    (subst (λ k. IsKnownOf k T) (sym c.nothing.ensures) (nothing_known T)) has (c.in-Ok.ensures.opens.upgraded clean T has)

pub returns-in-Err : goal.returns-in-Err
returns-in-Err g c =
    let unopened = c.in-Err.ensures in
    record {
      idle = c.open_desk.ensures.idle;
      asks = c.open_desk.ensures.opens.asks;
      unchanged = λ uses. tt;
      refused = unopened.refused;
      kept = tt;
      upgraded = tt;
      back = unopened.opens.back;
      left = c.open_desk.ensures.opens.left;
      spared = λ memory. unopened.opens.spared (ap (failed (Unit {0})) memory);
      newer = λ clean newer. unopened.newer clean (ap (failed (Unit {0})) newer);
      shows = tt;
      no_later = λ clean none. unopened.no_later clean (ap (failed (Unit {0})) none);
      no_desk = λ clean none. unopened.no_desk clean (ap (failed (Unit {0})) none);
      whole = tt;
      whole_first = tt;
      desk = unopened.opens.desk;
      first = unopened.opens.first;
      later = λ later clean. unopened.later clean later;
      failed = unopened.opens.failed;
      answering = λ clean memory. unopened.opens.answering clean (ap (failed (Unit {0})) memory);
    }
