use Rattle.std.proofs.Common.{ap, inl, inr, subst, sym, ◌∙◌}
use Rattle.store_columns.proofs.RowsApart.{accounts-apart}
use Rattle.desk_model.specs.Kept.{EachOf}
use Rattle.sql_read.specs.Only.{ShowsOnlyFirstRows}
use Rattle.sql_read.proofs.{Streaming.shown_same, FirstTables.accounts_selected, FirstTables.first_accounts, FirstChecked.reads_ok, FirstChecked.tables_then}
use Rattle.sqlite.specs.Held.{state}
use Rattle.sql_upgrade.specs.FoundKeys.{HasKey, ShowsOwners, ShowsThumbs, account_rows, thumb_rows}
use Rattle.sql_upgrade.proofs.KeyReadings.{table_failed}
use Rattle.sql_upgrade.proofs.answer_keys.read_keys.Goals as goal

pub check_table-requires-clause-query : goal.check_table-requires-clause-query
check_table-requires-clause-query g c = accounts_selected

pub check_table-requires-clause-apart : goal.check_table-requires-clause-apart
check_table-requires-clause-apart g c = accounts-apart

pub returns-in-Ok-Some : goal.returns-in-Ok-Some
returns-in-Ok-Some g c =
    let db = (state g.S.Store c.args.conn.now).now in
    tables_then g.S.Store (λ keys. ShowsThumbs g.S.Store db keys.items)
    (λ keys. ShowsOwners g.S.Store (state g.S.Store c.check_table.new.conn).now c.in-Ok-Some.thumbs keys.items)
    c.args.conn.now c.check_table.new.conn c.keys_of_authorizations.new.conn c.keys_of_authorizations.result
    (λ clean keys owners. record {
      thumbs = c.in-Ok-Some.thumbs;
      table = rw c.in-Ok-Some.field-0-is at (c.in-Ok-Some.ensures.whole clean);
      owners = subst (λ db. ShowsOwners g.S.Store db c.in-Ok-Some.thumbs keys.items) (c.in-Ok-Some.ensures.unchanged clean).0.now_is
          owners;
    })
    (λ clean lacks rows stored only have.
    let still = (c.in-Ok-Some.ensures.unchanged clean).0.now_is in
    let table = rw c.in-Ok-Some.field-0-is at (c.in-Ok-Some.ensures.whole clean) in
    let are = table.is
    ∙ ap thumb_rows (shown_same g.S.Store _ _ _ _ _ accounts-apart c.args.conn.now table rows.accounts stored.accounts only.accounts) in
    lacks rows stored (subst (λ db. ShowsOnlyFirstRows g.S.Store db rows) (sym still) only)
    (subst (λ ts. EachOf (HasKey (account_rows rows.authorizations) ts) rows.challenges) (sym are) have))
    c.in-Ok-Some.ensures.unchanged c.in-Ok-Some.ensures.asks c.keys_of_authorizations.ensures

pub returns-in-Ok-None : goal.returns-in-Ok-None
returns-in-Ok-None g c = reads_ok g.S.Store
    (λ clean rows stored only have. c.in-Ok-None.ensures.none clean c.in-Ok-None.field-0-is rows.accounts stored.accounts only.accounts tt)
    c.in-Ok-None.ensures.unchanged c.in-Ok-None.ensures.asks

pub returns-in-Err : goal.returns-in-Err
returns-in-Err g c =
    table_failed g.S.Store _ _ _ c.args.conn.now c.check_table.new.conn c.in-Err.error (λ at. inl (inl (inl (inl (inr at)))))
    (λ T has texts. (first_accounts g.S.Store c.args.conn.now T has).readable texts)
    c.in-Err.ensures.fails c.in-Err.ensures.refused c.in-Err.ensures.met c.in-Err.ensures.asks
