use Rattle.std.proofs.Common.{◌∷◌, []}
use Rattle.std.specs.List.{flat_map}
use Rattle.desk_model.specs.Json.{document, list}
use Rattle.core_replies.proofs.Writing.{written_text}
use Rattle.core_replies.proofs.json_text.listing_document.Goals as goal

pub returns : goal.returns
returns g c =
    let shown = document ((c.args.name.now, list (flat_map (g.R.ListItem.values c.args.by.now) c.args.rows.now)) ∷ []) in
    c.document_of.ensures shown (written_text _ _ shown c.in_ok-text.ensures c.requires c.in_ok-write_listing.ensures)
