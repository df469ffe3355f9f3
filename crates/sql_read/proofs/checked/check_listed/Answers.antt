use Rattle.std.proofs.Common.{inl, inr, subst, ◌∙◌, rules}
use Rattle.store_columns.proofs.RowsApart.{listed-apart}
use Rattle.store_book.specs.BookRows.{AreListed}
use Rattle.sql_read.specs.declared.formats.Format.TheVariants.{Second}
use Rattle.sql_read.proofs.BookChecks.{checks_failed, checks_stopped, checks_then, in_format, table_as}
use Rattle.sql_read.proofs.{AllRows.all_listed, Readings.listed_reading, WholeTables.listed_readable}
use Rattle.sql_read.proofs.checked.check_listed.Goals as goal

pub check_table-requires : goal.check_table-requires
check_table-requires g c = record { query = (listed_reading Second).selecting; apart = listed-apart; begun = search rules }

pub returns : goal.returns
returns g c = checks_then g.S.Store c.check_challenges.ensures (λ clean rest. record {
  table = table_as (rw c.in-Some.is at (c.in_ok-check_table.ensures.whole clean))
      (λ rows is. subst (λ l. AreListed l c.args.authorizations.now rows) c.new-check.ensures.orders
      (subst (λ l. AreListed c.new-check.result.orders.now l rows) c.new-check.ensures.authorizations is));
  challenges = rest;
}) (λ clean meta rows shows kept. (kept.0, kept.2)) c.in_ok-check_table.ensures.unchanged c.in_ok-check_table.ensures.asks

pub returns-in_err-check_table : goal.returns-in_err-check_table
returns-in_err-check_table g c =
    checks_failed g.S.Store (λ T has texts. listed_readable g.S.Store c.args.conn.now T c.args.format has)
    (λ at. in_format g.S.Store c.args.format _ _ (inl (inl (inr at)))) c.from_residual.ensures.0 c.from_residual.ensures.1
    c.in_err-check_table.ensures.fails c.in_err-check_table.ensures.refused c.in_err-check_table.ensures.met c.in_err-check_table.ensures.asks

pub returns-in_default : goal.returns-in_default
returns-in_default g c = checks_stopped g.S.Store
    (λ clean meta rows shows kept.
    c.in_ok-check_table.ensures.none clean c.in_default.is rows.listed shows.stored.listed shows.only.listed
    (all_listed shows.are shows.by_key _ _ _ _ c.new-check.ensures.order c.new-check.ensures.place (c.new-check.ensures.orders ∙ kept.1)
    (c.new-check.ensures.authorizations ∙ kept.2)))
    c.in_ok-check_table.ensures.unchanged c.in_ok-check_table.ensures.asks
