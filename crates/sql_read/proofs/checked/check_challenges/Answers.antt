use Rattle.std.proofs.Common.{◌≡◌, ap, inr, subst, subst₂, sym, ◌∙◌, rules}
use Rattle.sqlite.specs.Held.{state}
use Rattle.store_book.specs.BookRows.{AreChallenges, answered_numbers}
use Rattle.store_columns.proofs.RowsApart.{challenges-apart}
use Rattle.sql_read.specs.{BookShown.Checks, BookShown.ShowsKeysIn, declared.formats.Format.TheVariants.Second}
use Rattle.sql_read.proofs.{AllRows.all_challenges, Streaming.shown_same, Readings.challenges_reading, WholeTables.challenges_whole}
use Rattle.sql_read.proofs.BookChecks.{checks_failed, checks_last, checks_stopped, checks_then, in_format, table_as}
use Rattle.sql_read.proofs.checked.check_challenges.Goals as goal

pub check_table-requires : goal.check_table-requires
check_table-requires g c = record { query = (challenges_reading Second).selecting; apart = challenges-apart; begun = search rules }

pub returns : goal.returns
returns g c =
    checks_then g.S.Store
    (subst (λ f. Checks g.S.Store f c.check_table.new.conn c.check_keys.new.conn (λ db. ShowsKeysIn g.S.Store db f c.in-Some.answered)
    (λ _ meta rows. c.in-Some.answered ≡ answered_numbers rows.challenges) c.check_keys.result)
    (sym c.in-Second.is) c.check_keys.ensures) (λ clean rest.
    let table = rw c.in-Some.is at (c.in_ok-answered.ensures.whole clean) in record {
      table = table_as table
          (λ rows is. subst₂ (λ n l. AreChallenges n l rows) (ap (λ k. k.last) c.new-check.ensures.counter) c.new-check.ensures.authorizations is.0);
      keys = subst (ShowsKeysIn g.S.Store _ c.args.format) table.is.1 rest;
    })
    (λ clean meta rows shows kept.
    let table = rw c.in-Some.is at (c.in_ok-answered.ensures.whole clean) in
    table.is.1
    ∙ ap answered_numbers (shown_same g.S.Store _ _ _ _ _ challenges-apart c.args.conn.now table rows.challenges shows.stored.challenges
    shows.only.challenges))
    c.in_ok-answered.ensures.unchanged c.in_ok-answered.ensures.asks

pub returns-in-First : goal.returns-in-First
returns-in-First g c =
    checks_last g.S.Store (λ clean.
    let table = rw c.in-Some.is at (c.in_ok-answered.ensures.whole clean) in record {
      table = table_as table
          (λ rows is. subst₂ (λ n l. AreChallenges n l rows) (ap (λ k. k.last) c.new-check.ensures.counter) c.new-check.ensures.authorizations is.0);
      keys = subst (λ f. ShowsKeysIn g.S.Store (state g.S.Store c.args.conn.now).now f (answered_numbers table.rows)) (sym c.in-First.is) tt;
    })
    c.in_ok-answered.ensures.unchanged c.in_ok-answered.ensures.asks

pub returns-in_err-answered : goal.returns-in_err-answered
returns-in_err-answered g c =
    checks_failed g.S.Store (λ T has texts. (challenges_whole g.S.Store c.args.conn.now T c.args.format has).readable texts)
    (λ at. in_format g.S.Store c.args.format _ _ (inr at)) c.from_residual.ensures.0 c.from_residual.ensures.1
    c.in_err-answered.ensures.fails c.in_err-answered.ensures.refused c.in_err-answered.ensures.met c.in_err-answered.ensures.asks

pub returns-in_default : goal.returns-in_default
returns-in_default g c = checks_stopped g.S.Store
    (λ clean meta rows shows kept.
    c.in_ok-answered.ensures.none clean c.in_default.is rows.challenges shows.stored.challenges shows.only.challenges
    (all_challenges shows.are _ _ (ap (λ k. k.last) c.new-check.ensures.counter ∙ ap (λ k. k.challenges) kept.0)
    (c.new-check.ensures.authorizations ∙ kept.1)))
    c.in_ok-answered.ensures.unchanged c.in_ok-answered.ensures.asks
