use Rattle.std.proofs.Common.{◌≡◌, [], ◌∷◌, ap, map, subst, sym, ◌∙◌}
use Rattle.desk_model.specs.Kept.{EachOf}
use Rattle.model_laws.proofs.Basics.{each_all}
use Rattle.model_parts.specs.LookUps.{AreWaiting, bare_authorizations}
use Rattle.sql_schema.specs.declared.challenges.TheConstants as chall
use Rattle.sql_read.proofs.{JoinFound.are_found, JoinFound.joined_find, JoinFound.waiting_rows, LookUpReadings.joined_reading, LookUpReadings.text}
use Rattle.sql_read.proofs.Looking.{finds_as, looked, query_as}
use Rattle.sql_read.proofs.waiting.waiting_challenges.Goals as goal

pub find_wholes-requires : goal.find_wholes-requires
find_wholes-requires g c = query_as (c.text-query.ensures ∙ ap (λ t. (chall.SELECT_JOINED.now, text t)) c.as_str-waiting.ensures) joined_reading.selecting

pub returns : goal.returns
returns g c =
    looked waiting_rows (λ T has book. (
      each_all _ (waiting_rows T) (λ w. tt),
      finds_as (c.text-query.ensures ∙ ap (λ t. (chall.SELECT_JOINED.now, text t)) c.as_str-waiting.ensures)
          (joined_find g.S.Store c.args.conn.now T has book),
    ))
    (λ T has book rows are.
    subst
    (λ l. AreWaiting T (map (λ w. (w.authorization.number, w.challenge)) l)
    × EachOf (λ w. bare_authorizations T w.authorization.number ≡ w.authorization ∷ []) l) (sym are)
    (are_found g.S.Store c.args.conn.now T has book)) c.find_wholes.ensures
