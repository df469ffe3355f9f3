use Rattle.model_laws.proofs.Keeps.{each-filter}
use Rattle.model_parts.specs.LookUps.{authorizations_where}
use Rattle.sql_read.proofs.{LookUpReadings.authorizations_asked, LookUpRows.authorizations_find, UnderLemmas.authorizations_have}
use Rattle.sql_read.proofs.Looking.{finds_as, looked, query_as}
use Rattle.sql_read.proofs.authorizations.find_authorizations.Goals as goal

pub find_wholes-requires : goal.find_wholes-requires
find_wholes-requires g c = query_as c.query_of.ensures (authorizations_asked c.args.which).selecting

pub returns : goal.returns
returns g c =
    looked (λ T. authorizations_where T c.args.which)
    (λ T has book. (
      each-filter _ _ T.authorizations (authorizations_have 0 T.authorizations has.rising.authorizations),
      finds_as c.query_of.ensures (authorizations_find g.S.Store c.args.conn.now T has book c.args.which),
    ))
    (λ T has book rows are. are) c.find_wholes.ensures
