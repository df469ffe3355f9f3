use Rattle.std.proofs.Common.{rules}
use Rattle.sql_write.specs.{Making.MakesDesk, Statements.make_statements, Fits.FitsMeta}
use Rattle.sql_write.proofs.Leaving.{leaves}
use Rattle.sql_write.proofs.making.make_tables.Goals as goal

pub returns : goal.returns
returns g c =
    let meta = c.args.meta.now in
    let made = c.define_desk-defined in
    let whole = leaves g.S.Store c.args.conn.now made.new.tx.conn.now c.end.new.tx.0 (make_statements meta) (MakesDesk meta) (MakesDesk meta) (FitsMeta meta)
    _ c.transaction-tx.ensures.begun made.result c.end.result (λ did. did) made.ensures.writes (record {
      done = c.end.ensures.done;
      ok = c.end.ensures.ok;
      err = c.end.ensures.err;
      before = c.end.ensures.before;
      left = c.end.ensures.left;
      cause = c.end.ensures.cause;
      fits = λ all. c.end.ensures.fits (made.ensures.fits all);
    }) in
    record {
      idle = search rules;
      ok = search (rules, whole.ok);
      err = search (rules, whole.err);
      before = search (rules, whole.before);
      left = search (rules, whole.left);
      fits = search rules;
      cause = search (rules, whole.cause);
    }
