use Rattle.model_laws.proofs.Keeps.{each-filter}
use Rattle.model_parts.specs.Above.{first_of, authorizations_above}
use Rattle.sql_read.proofs.Looking.{finds_as, looked, query_as}
use Rattle.sql_read.proofs.{LookUpReadings.authorization_above_reading, LookUpRows.authorization_above_find, Lists.each_take, UnderLemmas.authorizations_have}
use Rattle.sql_read.proofs.authorizations.authorization_above.Goals as goal

pub find_wholes-requires : goal.find_wholes-requires
find_wholes-requires g c = query_as c.number-query.ensures (authorization_above_reading c.args.number).selecting

pub returns : goal.returns
returns g c =
    looked (λ T. first_of (authorizations_above T c.args.number))
    (λ T has book. (
      each_take _ 1 _ (each-filter _ _ T.authorizations (authorizations_have 0 T.authorizations has.rising.authorizations)),
      finds_as c.number-query.ensures (authorization_above_find g.S.Store c.args.conn.now T has book c.args.number),
    ))
    (λ T has book rows are. are) c.find_wholes.ensures
