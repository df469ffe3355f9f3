use Rattle.std.proofs.Common.{List, drop}
use Rattle.std.specs.List.{flat_map}
use Rattle.json.specs.Token.{Token}
use Rattle.core_replies.specs.Texts.{HasValues}
use Rattle.core_replies.proofs.json_text.write_each.Given as goal

-- with what the rest shows, all of it stands there
abbrev pub invariant-loop-item : goal.invariant-loop-item
invariant-loop-item g l = (new : List Token) → HasValues l.text new (flat_map (g.T.ListItem.values l.by) (drop l.item-index l.items))
    → HasValues l.fn.text new (flat_map (g.T.ListItem.values l.by) l.items)
