use Rattle.std.proofs.Common.{◌≡◌, inr, subst, subst₂, sym}
use Rattle.sqlite.specs.Held.{state}
use Rattle.desk_model.specs.Kept.{EachOf}
use Rattle.store_columns.proofs.RowsApart.{challenges-apart}
use Rattle.sql_read.proofs.Results.{found_or, found_then, read_both}
use Rattle.sql_read.proofs.{FirstTables.challenges_selected, FirstTables.first_challenges, BookChecks.table_as}
use Rattle.sql_upgrade.specs.FoundKeys.{HasKey, LacksAnswers, ShowsAnswers, row_keys}
use Rattle.sql_upgrade.proofs.KeyReadings.{table_read}
use Rattle.sql_upgrade.proofs.answer_keys.keys_of_challenges.Goals as goal

pub check_table-requires-clause-query : goal.check_table-requires-clause-query
check_table-requires-clause-query g c = challenges_selected

pub check_table-requires-clause-apart : goal.check_table-requires-clause-apart
check_table-requires-clause-apart g c = challenges-apart

pub returns : goal.returns
returns g c =
    let store = g.S.Store in
    let db = (state store c.args.conn.now).now in
    table_read g.S.Store _ _ _ _ c.args.conn.now c.check_table.new.conn c.check_table.result (λ e at. inr at)
    (λ T has texts. (first_challenges g.S.Store c.args.conn.now T has).readable texts)
    (λ clean. read_both c.check_table.result (c.check_table.ensures.whole clean) (c.check_table.ensures.none clean) (λ found is none.
    found_or (LacksAnswers store db c.args.accounts.now c.args.thumbs.now)
    (λ keys. ShowsAnswers store db c.args.accounts.now c.args.thumbs.now keys.items) found
    (found_then found is (λ keys table.
    table_as table (λ rows are. subst (λ owners. keys.items ≡ row_keys owners c.args.thumbs.now rows) c.new-check.ensures.accounts
    (subst (λ ts. keys.items ≡ row_keys c.new-check.result.accounts.now ts rows) c.new-check.ensures.thumbs are))))
    (λ no all stored only have. none no all stored only
    (subst₂ (λ os ts. EachOf (HasKey os ts) all) (sym c.new-check.ensures.accounts) (sym c.new-check.ensures.thumbs) have))))
    c.check_table.ensures.fails c.check_table.ensures.refused c.check_table.ensures.met c.check_table.ensures.unchanged c.check_table.ensures.asks
