use Rattle.std.proofs.{Common.ap, Common.sym, Common.◌∙◌, lemmas.Result.on_ok_weaker}
use Rattle.std.specs.Option.{option_copied}
use Rattle.desk_model.specs.{Change.put, declared.rows.AuthorizationRow.AuthorizationRow}
use Rattle.store_api.proofs.WaitingRows.{put_joined}
use Rattle.store_api.proofs.waiting.nest.Goals as goal

pub returns-in_ok-row-in-Some : goal.returns-in_ok-row-in-Some
returns-in_ok-row-in-Some c =
    on_ok_weaker c.put.result
    (λ put_now up.
    put_now
    ∙ ap (λ r. put (λ (x : AuthorizationRow). x.number) r c.args.authorizations.now) c.in_ok-row-in-Some.ensures
    ∙ put_joined (c.args.owner, c.args.challenge) c.in-Some.row.now c.args.authorizations.now up (sym c.get.ensures ∙ ap option_copied c.in-Some.is))
    c.put.ensures.done
