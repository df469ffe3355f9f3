use Rattle.std.proofs.Common.{inl, inr, subst, sym}
use Rattle.sql_read.specs.{BookShown.ShowsNonces, First.ShowsFirstMeta, FirstRows.IsFirstMeta, FirstRows.IsWithRows, declared.formats.Format.TheVariants.First}
use Rattle.sql_read.proofs.FirstChecked.{no_meta, no_rows, reads_err, reads_ok, tables_then}
use Rattle.sql_read.proofs.WholeTables.{meta_whole}
use Rattle.sql_read.proofs.first.checked_meta.Goals as goal

pub returns-in-Ok-Some : goal.returns-in-Ok-Some
returns-in-Ok-Some g c =
    let store = g.S.Store in
    let old = c.args.conn.now in
    let mid = c.read_first_meta.new.conn in
    let first = rw c.in-Ok-Some.field-0-is at c.in-Ok-Some.ensures in
    tables_then store (IsFirstMeta store old) (IsWithRows store mid c.in-Ok-Some.meta) old mid c.with_checked_rows.new.conn c.with_checked_rows.result
    (λ clean row is. record {
      shown = subst (ShowsFirstMeta store old) (sym is.same) (first.shown clean);
      shows = subst (λ db. ShowsNonces store db First row.counters) (first.unchanged clean).0.now_is is.shows;
    })
    (λ clean none. no_rows store old mid c.in-Ok-Some.meta (first.unchanged clean).0.now_is (first.shown clean) none)
    first.unchanged first.asks c.with_checked_rows.ensures

pub returns-in-Ok-None : goal.returns-in-Ok-None
returns-in-Ok-None g c =
    let first = rw c.in-Ok-None.field-0-is at c.in-Ok-None.ensures in
    reads_ok g.S.Store (λ clean. no_meta g.S.Store c.args.conn.now (first.shown clean)) first.unchanged first.asks

pub returns-in-Err : goal.returns-in-Err
returns-in-Err g c =
    let first = c.in-Err.ensures in
    reads_err g.S.Store (λ clean may is. first.fails clean may ((meta_whole g.S.Store c.args.conn.now is.tables First is.holds).readable is.texts))
    (λ clean. elim (first.refused clean) [
      | inl memory ↦ inl memory
      | inr at ↦ inr (inl (inl (inl (inl (inl (inl at))))))
    ]) first.met first.asks
