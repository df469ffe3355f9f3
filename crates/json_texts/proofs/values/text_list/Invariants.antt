use Rattle.std.proofs.Common.{◌≡◌, map, take}
use Rattle.serde_json.specs.{Data.string, View.view}
use Rattle.json_texts.proofs.values.text_list.Given as goal

abbrev pub invariant-loop-text : goal.invariant-loop-text
invariant-loop-text l = map view l.items.items ≡ map string (take l.text-index l.texts)
