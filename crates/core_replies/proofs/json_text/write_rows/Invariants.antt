use Rattle.std.proofs.Common.{List}
use Rattle.std.specs.List.{flat_map}
use Rattle.json.specs.Token.{Token}
use Rattle.core_replies.specs.Texts.{HasValues}
use Rattle.core_replies.proofs.json_text.write_rows.Given as goal

-- with what the rest shows, all of it stands there
abbrev pub invariant-loop-row : goal.invariant-loop-row
invariant-loop-row g l = (new : List Token) → HasValues l.text new (flat_map (g.R.ListItem.values l.by) l.row-iterator)
    → HasValues l.fn.text new (flat_map (g.R.ListItem.values l.by) l.rows)
