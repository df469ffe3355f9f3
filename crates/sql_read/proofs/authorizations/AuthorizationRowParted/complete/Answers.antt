use Rattle.std.proofs.{Common.map, Common.filter, Common.ap, Common.◌==◌, Common.◌∙◌, lemmas.Result.IfOk-from_err}
use Rattle.store_columns.specs.Flat.{challenge_rows}
use Rattle.desk_model.specs.declared.rows.AuthorizationRow.{AuthorizationRow}
use Rattle.sql_read.specs.{LookUpFaults.IsOfMemory, Under.rows_under}
use Rattle.model_laws.proofs.Basics.{each_all}
use Rattle.sql_read.proofs.{KeyedFound.challenges_of_find, LookUpReadings.challenges_of_reading, Results.failed_as}
use Rattle.sql_read.proofs.Looking.{finds_as, query_as, step_failed, step_made}
use Rattle.sql_read.proofs.authorizations.AuthorizationRowParted.complete.Goals as goal

pub find_wholes-requires : goal.find_wholes-requires
find_wholes-requires g c = query_as c.number-query.ensures (challenges_of_reading c.args.self.number).selecting

pub returns-clause-looks : goal.returns-clause-looks
returns-clause-looks g c is_open =
    let n = c.args.self.number in
    step_made (λ T whole. filter (λ r. r.owner == n) (challenge_rows T.authorizations)) (λ T has book whole all. (
      each_all _ (filter (λ r. r.owner == n) (challenge_rows T.authorizations)) (λ _. tt),
      finds_as c.number-query.ensures (challenges_of_find g.S.Store c.args.conn.now T has book n),
    ))
    c.in_ok-rows.ensures (λ T whole all found.
    let challenges = c.new-challenges.ensures ∙ c.in_ok-without_owners.ensures.rows ∙ ap (map (λ r. r.row)) found
    ∙ ap (λ (a : AuthorizationRow). rows_under a.number (challenge_rows T.authorizations)) all.1 ∙ all.0 in
    ((λ i. record (all.1 i) { challenges = challenges i }), tt))

pub returns-in_err-rows-clause-looks : goal.returns-in_err-rows-clause-looks
returns-in_err-rows-clause-looks g c is_open =
    let n = c.args.self.number in
    step_failed (λ T whole. filter (λ r. r.owner == n) (challenge_rows T.authorizations)) (λ T has book whole all. (
      each_all _ (filter (λ r. r.owner == n) (challenge_rows T.authorizations)) (λ _. tt),
      finds_as c.number-query.ensures (challenges_of_find g.S.Store c.args.conn.now T has book n),
    ))
    c.in_err-rows.ensures c.from_residual.ensures.1

pub returns-in_err-without_owners-clause-looks : goal.returns-in_err-without_owners-clause-looks
returns-in_err-without_owners-clause-looks g c is_open =
    let n = c.args.self.number in
    let r = c.from_residual-in_err-without_owners.result in
    let end = c.from_residual-in_err-without_owners.ensures in
    step_made (λ T whole. filter (λ r. r.owner == n) (challenge_rows T.authorizations)) (λ T has book whole all. (
      each_all _ (filter (λ r. r.owner == n) (challenge_rows T.authorizations)) (λ _. tt),
      finds_as c.number-query.ensures (challenges_of_find g.S.Store c.args.conn.now T has book n),
    ))
    c.in_ok-rows.ensures (λ T whole all found. (
      IfOk-from_err r _ end.0,
      failed_as r c.in_err-without_owners.field-0.0 IsOfMemory c.in_err-without_owners.ensures.fault end.1,
    ))
