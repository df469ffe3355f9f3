use Rattle.std.proofs.Common.{inr, rules}
use Rattle.store_columns.proofs.RowsApart.{keys-apart}
use Rattle.sql_read.proofs.{BookChecks.checks_failed, Readings.keys_reading, WholeTables.keys_whole}
use Rattle.sql_read.proofs.checked.check_keys.Goals as goal

pub check_table-requires : goal.check_table-requires
check_table-requires g c = record { query = keys_reading.selecting; apart = keys-apart; begun = search rules }

pub returns-in_err-check_table : goal.returns-in_err-check_table
returns-in_err-check_table g c =
    checks_failed g.S.Store (λ T has texts. (keys_whole g.S.Store c.args.conn.now T has).readable texts)
    (λ at. inr at) c.from_residual.ensures.0 c.from_residual.ensures.1
    c.in_err-check_table.ensures.fails c.in_err-check_table.ensures.refused c.in_err-check_table.ensures.met c.in_err-check_table.ensures.asks
