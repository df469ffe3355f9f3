use Rattle.std.proofs.Common.{◌≡◌, Some, take}
use Rattle.serde_json.specs.{Find.as_str, View.items_view}
use Rattle.desk_model.specs.Payload.{each_in}
use Rattle.json_texts.proofs.values.texts.Given as goal

abbrev pub invariant-loop-item : goal.invariant-loop-item
invariant-loop-item l = each_in as_str (items_view (take l.item-index l.items)) ≡ Some l.found.items
