use Rattle.std.proofs.Common.{ap, inl, inr, subst, sym, ◌∙◌}
use Rattle.store_columns.specs.Columns.{challenge_columns}
use Rattle.store_columns.proofs.RowsApart.{authorizations-apart}
use Rattle.desk_model.specs.Kept.{EachOf}
use Rattle.sql_read.specs.{Checking.ShowsOnly, Spelled.FitsChallenge, Spelled.challenge_in}
use Rattle.sql_read.proofs.{Streaming.shown_same, FirstTables.first_authorizations, FirstChecked.tables_then}
use Rattle.sql_schema.specs.declared.challenges.TheConstants as chall
use Rattle.sqlite.specs.Held.{state}
use Rattle.sql_upgrade.specs.FoundKeys.{HasKey, ShowsAnswers, ShowsOwners, account_rows}
use Rattle.sql_upgrade.proofs.KeyReadings.{table_failed}
use Rattle.sql_upgrade.proofs.answer_keys.keys_of_authorizations.Goals as goal

pub returns-in-Ok-Some : goal.returns-in-Ok-Some
returns-in-Ok-Some g c =
    let db = (state g.S.Store c.args.conn.now).now in
    tables_then g.S.Store (λ keys. ShowsOwners g.S.Store db c.args.thumbs.now keys.items)
    (λ keys. ShowsAnswers g.S.Store (state g.S.Store c.check_table.new.conn).now c.in-Ok-Some.accounts c.args.thumbs.now keys.items)
    c.args.conn.now c.check_table.new.conn c.keys_of_challenges.new.conn c.keys_of_challenges.result
    (λ clean keys answers. record {
      accounts = c.in-Ok-Some.accounts;
      table = rw c.in-Ok-Some.field-0-is at (c.in-Ok-Some.ensures.whole clean);
      answers = subst (λ db. ShowsAnswers g.S.Store db c.in-Ok-Some.accounts c.args.thumbs.now keys.items) (c.in-Ok-Some.ensures.unchanged clean).0.now_is
          answers;
    })
    (λ clean lacks rows stored only have.
    let still = (c.in-Ok-Some.ensures.unchanged clean).0.now_is in
    let table = rw c.in-Ok-Some.field-0-is at (c.in-Ok-Some.ensures.whole clean) in
    let are = table.is
    ∙ ap account_rows (shown_same g.S.Store _ _ _ _ _ authorizations-apart c.args.conn.now table rows.authorizations stored.authorizations
    only.authorizations) in
    lacks rows.challenges stored.challenges
    (subst (λ db. ShowsOnly g.S.Store chall.SELECT.now challenge_in challenge_columns FitsChallenge db rows.challenges) (sym still) only.challenges)
    (subst (λ os. EachOf (HasKey os c.args.thumbs.now) rows.challenges) (sym are) have))
    c.in-Ok-Some.ensures.unchanged c.in-Ok-Some.ensures.asks c.keys_of_challenges.ensures

pub returns-in-Err : goal.returns-in-Err
returns-in-Err g c =
    table_failed g.S.Store _ _ _ c.args.conn.now c.check_table.new.conn c.in-Err.error (λ at. inl (inr at))
    (λ T has texts. (first_authorizations g.S.Store c.args.conn.now T has).readable texts)
    c.in-Err.ensures.fails c.in-Err.ensures.refused c.in-Err.ensures.met c.in-Err.ensures.asks
