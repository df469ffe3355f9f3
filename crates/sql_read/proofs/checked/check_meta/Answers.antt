use Rattle.std.proofs.Common.{inl, ◌∙◌, rules}
use Rattle.store_columns.proofs.RowsApart.{metas-apart}
use Rattle.sql_read.proofs.BookChecks.{checks_failed, checks_stopped, checks_then}
use Rattle.sql_read.proofs.{AllRows.counters_kept, Streaming.shown_same, Readings.meta_reading, WholeTables.meta_whole}
use Rattle.sql_read.specs.declared.formats.Format.TheVariants.{Second}
use Rattle.sql_read.proofs.checked.check_meta.Goals as goal

pub check_table-requires : goal.check_table-requires
check_table-requires g c = record { query = (meta_reading Second).selecting; apart = metas-apart; begun = search rules }

pub returns : goal.returns
returns g c = checks_then g.S.Store c.check_nonces.ensures (λ clean rest. record {
  last = c.in-Some.last;
  table = rw c.in-Some.is at (c.in_ok-last.ensures.whole clean);
  nonces = rest;
})
    (λ clean meta rows shows only.
    let table = rw c.in-Some.is at (c.in_ok-last.ensures.whole clean) in
    counters_kept c.in-Some.last table.rows meta table.is
    (shown_same g.S.Store _ _ _ _ _ metas-apart c.args.conn.now table rows.metas shows.stored.metas only ∙ shows.are.metas))
    c.in_ok-last.ensures.unchanged c.in_ok-last.ensures.asks

pub returns-in_err-last : goal.returns-in_err-last
returns-in_err-last g c =
    checks_failed g.S.Store (λ T has texts. (meta_whole g.S.Store c.args.conn.now T Second has).readable texts)
    (λ at. inl (inl (inl (inl (inl (inl (inl at))))))) c.from_residual.ensures.0 c.from_residual.ensures.1
    c.in_err-last.ensures.fails c.in_err-last.ensures.refused c.in_err-last.ensures.met c.in_err-last.ensures.asks

pub returns-in_default : goal.returns-in_default
returns-in_default g c = checks_stopped g.S.Store
    (λ clean meta rows shows only. c.in_ok-last.ensures.none clean c.in_default.is rows.metas shows.stored.metas only (meta, shows.are.metas))
    c.in_ok-last.ensures.unchanged c.in_ok-last.ensures.asks
