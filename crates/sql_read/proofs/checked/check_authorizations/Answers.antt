use Rattle.std.proofs.Common.{ap, inl, inr, map, subst, subst₂, ◌∙◌, rules}
use Rattle.store_columns.proofs.RowsApart.{authorizations-apart}
use Rattle.store_book.specs.BookRows.{AreAuthorizations}
use Rattle.sql_read.specs.{BookShown.ShowsListed, declared.formats.Format.TheVariants.Second}
use Rattle.sql_read.proofs.{AllRows.all_authorizations, Streaming.shown_same, BookChecks.checks_failed, BookChecks.checks_stopped, BookChecks.checks_then}
use Rattle.sql_read.proofs.{BookChecks.in_format, BookChecks.table_as, Readings.authorizations_reading, WholeTables.authorizations_whole}
use Rattle.sql_read.proofs.checked.check_authorizations.Goals as goal

pub check_table-requires : goal.check_table-requires
check_table-requires g c = record { query = (authorizations_reading Second).selecting; apart = authorizations-apart; begun = search rules }

pub returns : goal.returns
returns g c =
    checks_then g.S.Store c.check_listed.ensures (λ clean rest.
    let table = rw c.in-Some.is at (c.in_ok-authorizations.ensures.whole clean) in record {
      table = table_as table
          (λ rows is. subst₂ (λ n l. AreAuthorizations n l rows) (ap (λ k. k.last) c.new-check.ensures.counter) c.new-check.ensures.owners is.0);
      listed = subst (ShowsListed g.S.Store _ c.args.format c.args.last c.args.orders.now) table.is.1 rest;
    })
    (λ clean meta rows shows kept.
    let table = rw c.in-Some.is at (c.in_ok-authorizations.ensures.whole clean) in (
      kept.0,
      kept.2,
      table.is.1
          ∙ ap (map (λ a. a.number)) (shown_same g.S.Store _ _ _ _ _ authorizations-apart c.args.conn.now table rows.authorizations
          shows.stored.authorizations shows.only.authorizations),
    ))
    c.in_ok-authorizations.ensures.unchanged c.in_ok-authorizations.ensures.asks

pub returns-in_err-authorizations : goal.returns-in_err-authorizations
returns-in_err-authorizations g c =
    checks_failed g.S.Store (λ T has texts. (authorizations_whole g.S.Store c.args.conn.now T c.args.format has).readable texts)
    (λ at. in_format g.S.Store c.args.format _ _ (inl (inr at))) c.from_residual.ensures.0 c.from_residual.ensures.1
    c.in_err-authorizations.ensures.fails c.in_err-authorizations.ensures.refused c.in_err-authorizations.ensures.met c.in_err-authorizations.ensures.asks

pub returns-in_default : goal.returns-in_default
returns-in_default g c = checks_stopped g.S.Store
    (λ clean meta rows shows kept.
    c.in_ok-authorizations.ensures.none clean c.in_default.is rows.authorizations shows.stored.authorizations shows.only.authorizations
    (all_authorizations shows.are _ _ (ap (λ k. k.last) c.new-check.ensures.counter ∙ ap (λ k. k.authorizations) kept.0)
    (c.new-check.ensures.owners ∙ kept.1)))
    c.in_ok-authorizations.ensures.unchanged c.in_ok-authorizations.ensures.asks
