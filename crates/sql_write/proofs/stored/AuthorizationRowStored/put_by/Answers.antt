use Rattle.std.proofs.Common.{◌∙◌, ap}
use Rattle.desk_model.specs.{Change.applied_one, Questions.authorization_on, declared.rows.AuthorizationRow.AuthorizationRow}
use Rattle.sql_write.proofs.StoredRows.{put_lent}
use Rattle.sql_write.proofs.stored.AuthorizationRowStored.put_by.Goals as goal

pub returns-in-PutAuthorization : goal.returns-in-PutAuthorization
returns-in-PutAuthorization c T =
    ap (λ change. authorization_on (applied_one change T) c.args.number) c.in-PutAuthorization.is
    ∙ put_lent (λ (r : AuthorizationRow). r.number) c.args.number _ T.authorizations _ c.then_some.ensures
