use Rattle.std.proofs.Common.{◌≡◌, IfOk, option_map, subst}
use Rattle.serde_json.specs.View.{view}
use Rattle.app_tasks.proofs.Behind.{document_is, no_document}
use Rattle.app_tasks.proofs.outcomes.document_in.Goals as goal

-- a text
pub returns-in-Ok : goal.returns-in-Ok
returns-in-Ok c =
    subst (λ d. IfOk c.value_of.result (λ document. option_map view document ≡ d))
    (document_is c.args.body.now c.in-Ok.text.now c.in-Ok.ensures.cases.0 c.in-Ok.ensures.cases.1) c.value_of.ensures

-- no text
pub returns-in-Err : goal.returns-in-Err
returns-in-Err c = no_document c.args.body.now c.in-Err.ensures.cases.0
