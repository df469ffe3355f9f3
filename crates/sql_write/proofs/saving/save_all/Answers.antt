use Rattle.std.proofs.Common.{◌∙◌, ap, rules}
use Rattle.desk_model.specs.{declared.rows.Meta.Meta, Kept.EachOf}
use Rattle.sql_write.specs.{Fitting.Saves, Makes.MakesAll, Numbers.FitsColumns, Statements.save_statements, Statements.statements_from}
use Rattle.sql_write.proofs.{BackFits.saves_by, Leaving.leaves, RowsInTurn.of_save, Written.written_with}
use Rattle.sql_write.proofs.saving.save_all.Goals as goal

pub returns : goal.returns
returns g c =
    let part = c.args.part.now in
    let changes = c.args.changes.now in
    let made = c.make_changes-made in
    let same = ap (λ (meta : Meta). statements_from meta.counters part changes) c.meta.ensures ∙ of_save part changes in
    let whole = leaves g.S.Store c.args.conn.now made.new.tx.conn.now c.end.new.tx.0 (save_statements part changes) (MakesAll part changes)
    (Saves part changes) (EachOf FitsColumns changes) _ c.transaction-tx.ensures.begun made.result c.end.result (saves_by part changes _ _)
    (written_with g.S.Store _ _ _ _ _ made.result same made.ensures.writes) (record {
      done = c.end.ensures.done;
      ok = c.end.ensures.ok;
      err = c.end.ensures.err;
      before = c.end.ensures.before;
      left = c.end.ensures.left;
      cause = c.end.ensures.cause;
      fits = λ all. c.end.ensures.fits (made.ensures.fits all);
    }) in
    record {
      idle = search rules;
      ok = search (rules, whole.ok);
      err = search (rules, whole.err);
      before = search (rules, whole.before);
      left = search (rules, whole.left);
      fits = search rules;
      cause = search (rules, whole.cause);
    }
