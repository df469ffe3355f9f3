use Rattle.std.proofs.Common.{ap, inl, inr, map, subst, sym, ◌∙◌, rules}
use Rattle.store_book.specs.BookRows.{AreAccounts}
use Rattle.store_columns.proofs.RowsApart.{accounts-apart}
use Rattle.sql_read.specs.{BookShown.ShowsOrders, declared.formats.Format.TheVariants.Second}
use Rattle.sql_read.proofs.BookChecks.{checks_failed, checks_stopped, checks_then, in_format, table_as}
use Rattle.sql_read.proofs.{Streaming.shown_same, Readings.accounts_reading, WholeTables.accounts_whole}
use Rattle.sql_read.proofs.checked.check_accounts.Goals as goal

pub check_table-requires : goal.check_table-requires
check_table-requires g c = record { query = (accounts_reading Second).selecting; apart = accounts-apart; begun = search rules }

pub returns : goal.returns
returns g c =
    checks_then g.S.Store c.check_orders.ensures (λ clean rest.
    let table = rw c.in-Some.is at (c.in_ok-accounts.ensures.whole clean) in record {
      table = table_as table (λ rows is. subst (λ n. AreAccounts n rows) (ap (λ k. k.last) c.new-check.ensures.counter) is.0);
      orders = subst (ShowsOrders g.S.Store _ c.args.format c.args.last) table.is.1 rest;
    })
    (λ clean meta rows shows kept.
    let table = rw c.in-Some.is at (c.in_ok-accounts.ensures.whole clean) in (
      kept,
      table.is.1
          ∙ ap (map (λ a. a.number)) (shown_same g.S.Store _ _ _ _ _ accounts-apart c.args.conn.now table rows.accounts shows.stored.accounts
          shows.only.accounts),
    ))
    c.in_ok-accounts.ensures.unchanged c.in_ok-accounts.ensures.asks

pub returns-in_err-accounts : goal.returns-in_err-accounts
returns-in_err-accounts g c =
    checks_failed g.S.Store (λ T has texts. (accounts_whole g.S.Store c.args.conn.now T c.args.format has).readable texts)
    (λ at. in_format g.S.Store c.args.format _ _ (inl (inl (inl (inl (inr at)))))) c.from_residual.ensures.0 c.from_residual.ensures.1
    c.in_err-accounts.ensures.fails c.in_err-accounts.ensures.refused c.in_err-accounts.ensures.met c.in_err-accounts.ensures.asks

pub returns-in_default : goal.returns-in_default
returns-in_default g c = checks_stopped g.S.Store
    (λ clean meta rows shows kept.
    c.in_ok-accounts.ensures.none clean c.in_default.is rows.accounts shows.stored.accounts shows.only.accounts
    (subst (λ n. AreAccounts n rows.accounts) (sym (ap (λ k. k.last) c.new-check.ensures.counter ∙ ap (λ k. k.accounts) kept)) shows.are.accounts))
    c.in_ok-accounts.ensures.unchanged c.in_ok-accounts.ensures.asks
