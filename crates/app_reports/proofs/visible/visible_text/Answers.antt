use Rattle.std.proofs.Common.{flat_map, sym, ap, ◌∙◌, map-id}
use Rattle.std.proofs.{lemmas.Iterator.YieldsList-from_chars, lemmas.Iterator.Consumers.YieldsList-end}
use Rattle.app_reports.specs.Visible.{visible_char}
use Rattle.app_reports.proofs.visible.visible_text.Goals as goal

-- all of them
pub returns : goal.returns
returns c =
    let end = YieldsList-end (YieldsList-from_chars c.args.text.now c.utf8.text cc) c.loop-c.yielded _ c.loop-c.yielded_by _ _ c.in-None.is
    c.next.ensures.steps in
    c.loop-c.invariant ∙ ap (flat_map visible_char) (sym (map-id c.loop-c.yielded) ∙ end.0)
