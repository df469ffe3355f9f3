use Rattle.std.proofs.{Common.ap, Common.map, Common.◌∙◌, lemmas.Result.IfOk-weaker}
use Rattle.model_laws.proofs.Basics.{each_all}
use Rattle.sql_read.proofs.Looking.{finds_as, looked_failed, looked_made, query_as}
use Rattle.sql_read.proofs.{AboveRows.challenges_from, AboveRows.first_challenge, KeyedFound.challenge_above_find, LookUpReadings.challenge_above_reading}
use Rattle.sql_read.proofs.authorizations.challenge_above.Goals as goal

pub find_wholes-requires : goal.find_wholes-requires
find_wholes-requires g c = query_as c.number-query.ensures (challenge_above_reading c.args.number).selecting

pub returns : goal.returns
returns g c =
    let n = c.args.number in
    looked_made (λ T. challenges_from T n) (λ T has book. (
      each_all _ (challenges_from T n) (λ _. tt),
      finds_as c.number-query.ensures (challenge_above_find g.S.Store c.args.conn.now T has book n),
    ))
    c.in_ok-rows.ensures (λ T has book found. (
      IfOk-weaker c.without_owners.result _ _ (λ _ are. are ∙ ap (map (λ c. c.row)) found ∙ first_challenge T n has.rising.challenges)
          c.without_owners.ensures.rows,
      c.without_owners.ensures.fault,
    ))

pub returns-in_err-rows : goal.returns-in_err-rows
returns-in_err-rows g c =
    let n = c.args.number in
    looked_failed (λ T. challenges_from T n) (λ T has book. (
      each_all _ (challenges_from T n) (λ _. tt),
      finds_as c.number-query.ensures (challenge_above_find g.S.Store c.args.conn.now T has book n),
    ))
    c.in_err-rows.ensures c.from_residual.ensures.1
