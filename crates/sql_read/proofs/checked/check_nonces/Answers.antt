use Rattle.std.proofs.Common.{ap, inl, inr, subst, sym, ◌∙◌, rules}
use Rattle.store_columns.proofs.RowsApart.{nonces-apart}
use Rattle.model_laws.specs.Ordered.{IsTable}
use Rattle.sql_read.specs.declared.formats.Format.TheVariants.{Second}
use Rattle.sql_read.proofs.BookChecks.{checks_failed, checks_stopped, checks_then, in_format, table_as}
use Rattle.sql_read.proofs.{Readings.nonces_reading, WholeTables.nonces_whole}
use Rattle.sql_read.proofs.checked.check_nonces.Goals as goal

pub check_table-requires : goal.check_table-requires
check_table-requires g c = record { query = (nonces_reading Second).selecting; apart = nonces-apart; begun = search rules }

pub returns : goal.returns
returns g c = checks_then g.S.Store c.check_accounts.ensures (λ clean rest. record {
  table = table_as (rw c.in-Some.is at (c.in_ok-check_table.ensures.whole clean))
      (λ rows is. subst (λ k. IsTable (λ n. n.serial) k.counter.last rows) c.new-check.ensures is);
  accounts = rest;
}) (λ clean meta rows shows kept. kept) c.in_ok-check_table.ensures.unchanged c.in_ok-check_table.ensures.asks

pub returns-in_err-check_table : goal.returns-in_err-check_table
returns-in_err-check_table g c =
    checks_failed g.S.Store (λ T has texts. (nonces_whole g.S.Store c.args.conn.now T c.args.format has).readable texts)
    (λ at. in_format g.S.Store c.args.format _ _ (inl (inl (inl (inl (inl (inr at))))))) c.from_residual.ensures.0 c.from_residual.ensures.1
    c.in_err-check_table.ensures.fails c.in_err-check_table.ensures.refused c.in_err-check_table.ensures.met c.in_err-check_table.ensures.asks

pub returns-in_default : goal.returns-in_default
returns-in_default g c = checks_stopped g.S.Store
    (λ clean meta rows shows kept.
    c.in_ok-check_table.ensures.none clean c.in_default.is rows.nonces shows.stored.nonces shows.only.nonces
    (subst (λ n. IsTable (λ n. n.serial) n rows.nonces)
    (sym (ap (λ k. k.counter.last) c.new-check.ensures ∙ ap (λ k. k.nonces) kept)) shows.are.nonces))
    c.in_ok-check_table.ensures.unchanged c.in_ok-check_table.ensures.asks
