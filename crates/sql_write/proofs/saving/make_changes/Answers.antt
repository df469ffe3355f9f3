use Rattle.std.proofs.Common.{◌∙◌, ◌+◌, Err, Ok, arith, rules, subst, sym, take}
use Rattle.desk_model.specs.{Change.applied, declared.rows.Change.Change}
use Rattle.sql_write.proofs.RowsInTurn.{from_begins, from_more, made_more}
use Rattle.sql_write.proofs.{StoredRows.take_more, Written.written_then, Written.written_through, Written.written_with}
use Rattle.sql_write.specs.{Highest.IsAbove, Refusals.HasWritten, Makes.Makes, Makes.MakesAll, Statements.statements_of}
use Rattle.sql_write.proofs.saving.make_changes.Goals as goal

pub loop-place-preserved : goal.loop-place-preserved
loop-place-preserved g c =
    let part = c.args.part.now in
    let last = c.args.last.now in
    let changes = c.args.changes.now in
    let place = c.loop-place.place in
    let after = c.in_ok-make_change.ensures in
    record {
      same = after.same_reference ∙ c.loop-place.invariant.same;
      writes = written_with g.S.Store _ _ (MakesAll part (take (place + 1) changes)) _ _ (Ok tt)
          (sym (from_more last changes place _ part (omega arith)))
          (written_then g.S.Store _ _ (MakesAll part (take place changes)) (Makes (applied (take place changes) part) _)
          (MakesAll part (take (place + 1) changes)) _ _ _ tt (Ok tt) (made_more part changes place _ _ _ _ (omega arith))
          c.loop-place.invariant.writes
          (subst (λ (change : Change). HasWritten g.S.Store {X = Unit {0}} (statements_of (applied (take place changes) part) last change)
          (Makes (applied (take place changes) part) change) c.loop-place.tx.conn.now c.make_change.new.tx.conn.now (Ok tt))
          c.index-changes-place.is after.writes));
      above = subst (IsAbove c.with-highest.result) (sym (take_more changes place _ (omega arith) c.index-changes-place.is))
          (c.with-highest.ensures (take place changes) c.loop-place.invariant.above);
    }

pub returns-in_err-make_change-clause-writes : goal.returns-in_err-make_change-clause-writes
returns-in_err-make_change-clause-writes g c =
    let part = c.args.part.now in
    let last = c.args.last.now in
    let changes = c.args.changes.now in
    let place = c.loop-place.place in
    let after = applied (take place changes) part in
    let failed = c.in_err-make_change.ensures.writes in
    let here = subst (λ (change : Change). HasWritten g.S.Store {X = Unit {0}} (statements_of after last change) (Makes after change)
    c.loop-place.tx.conn.now c.make_change.new.tx.conn.now (Err c.in_err-make_change.field-0.0)) c.index-changes-place.is failed in
    let stops = written_through g.S.Store {Z = Unit {0}} _ _ _ _ (from_begins last changes place _ part (omega arith)) (MakesAll part (take place changes)) _
    (MakesAll part changes) _ _ _ tt _ c.loop-place.invariant.writes here in
    search (rules, stops)
