use Rattle.model_parts.specs.declared.queries.AuthorizationsWhere.TheVariants as authorizations_by
use Rattle.sql_read.proofs.{LookUpReadings.authorizations_asked, LookUpRows.authorizations_find, Looking.looked_as, Looking.query_as}
use Rattle.sql_read.proofs.authorizations.bare_authorizations.Goals as goal

pub find_rows-requires : goal.find_rows-requires
find_rows-requires g c = query_as c.number-query.ensures (authorizations_asked (authorizations_by.Number c.args.number)).selecting

pub returns : goal.returns
returns g c =
    looked_as c.number-query.ensures (λ T has book. authorizations_find g.S.Store c.args.conn.now T has book (authorizations_by.Number c.args.number))
    c.find_rows.ensures
