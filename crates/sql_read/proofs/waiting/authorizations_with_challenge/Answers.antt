use Rattle.std.proofs.{Common.ap, Common.◌∙◌, lemmas.Result.IfOk-weaker}
use Rattle.model_laws.proofs.Basics.{each_all}
use Rattle.sql_read.specs.Joined.{gathered}
use Rattle.sql_read.proofs.Looking.{finds_as, looked_failed, looked_made, query_as}
use Rattle.sql_read.proofs.{BesideFound.beside_find, BesideFound.beside_rows, BesideFound.owner_is, LookUpReadings.beside_reading}
use Rattle.sql_read.proofs.waiting.authorizations_with_challenge.Goals as goal

pub find_wholes-requires : goal.find_wholes-requires
find_wholes-requires g c = query_as c.number-query.ensures (beside_reading c.args.number).selecting

pub returns : goal.returns
returns g c =
    let n = c.args.number in
    looked_made (λ T. beside_rows T n) (λ T has book. (
      each_all _ (beside_rows T n) (λ _. tt),
      finds_as c.number-query.ensures (beside_find g.S.Store c.args.conn.now T has book n),
    ))
    c.in_ok-rows.ensures (λ T has book found. (
      IfOk-weaker c.gathered.result _ _ (λ _ are. are ∙ ap gathered (c.as_slice.ensures.value ∙ found)
          ∙ owner_is g.S.Store c.args.conn.now T has book n) c.gathered.ensures.rows,
      c.gathered.ensures.fault,
    ))

pub returns-in_err-rows : goal.returns-in_err-rows
returns-in_err-rows g c =
    let n = c.args.number in
    looked_failed (λ T. beside_rows T n) (λ T has book. (
      each_all _ (beside_rows T n) (λ _. tt),
      finds_as c.number-query.ensures (beside_find g.S.Store c.args.conn.now T has book n),
    ))
    c.in_err-rows.ensures c.from_residual.ensures.1
