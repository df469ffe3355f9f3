use Rattle.std.proofs.Common.{ap, inl, inr, map, subst, subst₂, ◌∙◌, rules}
use Rattle.store_columns.proofs.RowsApart.{orders-apart}
use Rattle.store_book.specs.BookRows.{AreOrders}
use Rattle.sql_read.specs.{BookShown.ShowsAuthorizations, declared.formats.Format.TheVariants.Second}
use Rattle.sql_read.proofs.BookChecks.{checks_failed, checks_stopped, checks_then, in_format, table_as}
use Rattle.sql_read.proofs.{AllRows.all_orders, Streaming.shown_same, Readings.orders_reading, WholeTables.orders_whole}
use Rattle.sql_read.proofs.checked.check_orders.Goals as goal

pub check_table-requires : goal.check_table-requires
check_table-requires g c = record { query = (orders_reading Second).selecting; apart = orders-apart; begun = search rules }

pub returns : goal.returns
returns g c =
    checks_then g.S.Store c.check_authorizations.ensures (λ clean rest.
    let table = rw c.in-Some.is at (c.in_ok-orders.ensures.whole clean) in record {
      table = table_as table
          (λ rows is. subst₂ (λ n l. AreOrders n l rows) (ap (λ k. k.last) c.new-check.ensures.counter) c.new-check.ensures.owners is.0);
      authorizations = subst (ShowsAuthorizations g.S.Store _ c.args.format c.args.last c.args.accounts.now) table.is.1 rest;
    })
    (λ clean meta rows shows kept.
    let table = rw c.in-Some.is at (c.in_ok-orders.ensures.whole clean) in (
      kept.0,
      kept.1,
      table.is.1
          ∙ ap (map (λ o. o.number)) (shown_same g.S.Store _ _ _ _ _ orders-apart c.args.conn.now table rows.orders shows.stored.orders shows.only.orders),
    ))
    c.in_ok-orders.ensures.unchanged c.in_ok-orders.ensures.asks

pub returns-in_err-orders : goal.returns-in_err-orders
returns-in_err-orders g c =
    checks_failed g.S.Store (λ T has texts. (orders_whole g.S.Store c.args.conn.now T c.args.format has).readable texts)
    (λ at. in_format g.S.Store c.args.format _ _ (inl (inl (inl (inr at))))) c.from_residual.ensures.0 c.from_residual.ensures.1
    c.in_err-orders.ensures.fails c.in_err-orders.ensures.refused c.in_err-orders.ensures.met c.in_err-orders.ensures.asks

pub returns-in_default : goal.returns-in_default
returns-in_default g c = checks_stopped g.S.Store
    (λ clean meta rows shows kept.
    c.in_ok-orders.ensures.none clean c.in_default.is rows.orders shows.stored.orders shows.only.orders
    (all_orders shows.are _ _ (ap (λ k. k.last) c.new-check.ensures.counter ∙ ap (λ k. k.orders) kept.0)
    (c.new-check.ensures.owners ∙ kept.1)))
    c.in_ok-orders.ensures.unchanged c.in_ok-orders.ensures.asks
