use Rattle.std.proofs.Common.{◌≡◌, Some, take}
use Rattle.serde_json.specs.View.{items_view}
use Rattle.desk_model.specs.Payload.{each_in, identifier_in}
use Rattle.identifiers.proofs.payloads.identifiers.Given as goal

abbrev pub invariant-loop-item : goal.invariant-loop-item
invariant-loop-item l = each_in identifier_in (items_view (take l.item-index l.items)) ≡ Some l.found.items
