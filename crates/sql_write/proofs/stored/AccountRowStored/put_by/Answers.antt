use Rattle.std.proofs.Common.{◌∙◌, ap}
use Rattle.desk_model.specs.{Change.applied_one, Questions.account_on, declared.rows.AccountRow.AccountRow}
use Rattle.sql_write.proofs.StoredRows.{put_lent}
use Rattle.sql_write.proofs.stored.AccountRowStored.put_by.Goals as goal

pub returns-in-PutAccount : goal.returns-in-PutAccount
returns-in-PutAccount c T =
    ap (λ change. account_on (applied_one change T) c.args.number) c.in-PutAccount.is
    ∙ put_lent (λ (r : AccountRow). r.number) c.args.number _ T.accounts _ c.then_some.ensures
