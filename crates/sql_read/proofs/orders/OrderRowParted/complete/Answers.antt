use Rattle.std.proofs.{Common.filter, Common.◌==◌, lemmas.Result.IfOk-from_err}
use Rattle.store_columns.specs.Flat.{listed_rows}
use Rattle.sql_read.specs.LookUpFaults.{IsOfMemory}
use Rattle.sql_read.proofs.{ListedOrder.listed_by_find, Results.failed_as, Looking.finds_as, Looking.step_failed, Looking.step_made}
use Rattle.sql_read.proofs.orders.OrderRowParted.complete.Goals as goal

pub returns-in_err-rows-clause-looks : goal.returns-in_err-rows-clause-looks
returns-in_err-rows-clause-looks g c is_open =
    step_failed (λ T whole. filter (λ l. l.owner == c.args.self.number) (listed_rows T.orders))
    (λ T has book whole all. finds_as c.number-query.ensures (listed_by_find g.S.Store c.args.conn.now T has book c.args.self.number))
    c.in_err-rows.ensures c.from_residual.ensures.1

pub returns-in_err-without_owners-clause-looks : goal.returns-in_err-without_owners-clause-looks
returns-in_err-without_owners-clause-looks g c is_open =
    let r = c.from_residual-in_err-without_owners.result in
    let end = c.from_residual-in_err-without_owners.ensures in
    step_made (λ T whole. filter (λ l. l.owner == c.args.self.number) (listed_rows T.orders))
    (λ T has book whole all. finds_as c.number-query.ensures (listed_by_find g.S.Store c.args.conn.now T has book c.args.self.number))
    c.in_ok-rows.ensures (λ T whole all found. (
      IfOk-from_err r _ end.0,
      failed_as r c.in_err-without_owners.field-0.0 IsOfMemory c.in_err-without_owners.ensures.fault end.1,
    ))
