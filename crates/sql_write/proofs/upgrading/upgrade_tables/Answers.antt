use Rattle.std.proofs.Common.{rules}
use Rattle.sql_write.specs.{Upgrading.Upgrades, Statements.upgrade_statements, Numbers.FitsUpgrade}
use Rattle.sql_write.proofs.Leaving.{leaves}
use Rattle.sql_write.proofs.upgrading.upgrade_tables.Goals as goal

pub returns : goal.returns
returns g c =
    let meta = c.args.meta.now in
    let keys = c.args.keys.now in
    let made = c.widen-widened in
    let whole = leaves g.S.Store c.args.conn.now made.new.tx.conn.now c.end.new.tx.0 (upgrade_statements meta keys) (Upgrades meta keys)
    (Upgrades meta keys) (FitsUpgrade meta keys) _ c.transaction-tx.ensures.begun made.result c.end.result (λ did. did) made.ensures.writes (record {
      done = c.end.ensures.done;
      ok = c.end.ensures.ok;
      err = c.end.ensures.err;
      before = c.end.ensures.before;
      left = c.end.ensures.left;
      cause = c.end.ensures.cause;
      fits = λ all. c.end.ensures.fits (made.ensures.fits all.meta_row all.each);
    }) in
    record {
      idle = search rules;
      ok = search (rules, whole.ok);
      err = search (rules, whole.err);
      before = search (rules, whole.before);
      left = search (rules, whole.left);
      fits = search rules;
      cause = search (rules, whole.cause);
    }
