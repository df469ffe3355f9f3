use Rattle.desk_model.specs.Json.{document}
use Rattle.core_replies.proofs.Writing.{written_text}
use Rattle.core_replies.proofs.json_text.shown_document.Goals as goal

pub returns : goal.returns
returns g c =
    let shown = document (g.T.ShowsObject.members c.args.by.now c.args.shown.now) in
    c.document_of.ensures shown (written_text _ _ shown c.in_ok-text.ensures c.requires c.in_ok-write_object.ensures)
