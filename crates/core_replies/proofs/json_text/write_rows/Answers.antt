use Rattle.std.proofs.Common.{subst, sym}
use Rattle.std.specs.List.{flat_map}
use Rattle.core_replies.specs.Texts.{HasValues}
use Rattle.core_replies.proofs.Writing.{values_then}
use Rattle.core_replies.proofs.json_text.write_rows.Goals as goal

pub loop-row-preserved : goal.loop-row-preserved
loop-row-preserved g c = λ new rest. c.loop-row.invariant new
    (subst (λ rows. HasValues c.loop-row.text new (flat_map (g.R.ListItem.values c.args.by.now) rows)) (sym c.in-Some.ensures.steps)
    (values_then c.in_ok-write_shown.ensures rest))
