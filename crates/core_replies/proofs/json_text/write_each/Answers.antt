use Rattle.std.proofs.Common.{add-one, arith, drop-cons, subst, sym}
use Rattle.std.specs.List.{flat_map}
use Rattle.core_replies.specs.Texts.{HasValues}
use Rattle.core_replies.proofs.Writing.{values_then}
use Rattle.core_replies.proofs.json_text.write_each.Goals as goal

pub loop-item-preserved : goal.loop-item-preserved
loop-item-preserved g c =
    rw (add-one c.loop-item.item-index)
    (λ new rest. c.loop-item.invariant new
    (subst (λ items. HasValues c.loop-item.text new (flat_map (g.T.ListItem.values c.args.by.now) items))
    (sym (drop-cons c.args.items.now c.loop-item.item-index _ (omega arith)))
    (values_then (subst (λ x. HasValues c.loop-item.text c.write_shown.new.text (g.T.ListItem.values c.args.by.now x)) c.item-item.is
    c.in_ok-write_shown.ensures) rest)))
