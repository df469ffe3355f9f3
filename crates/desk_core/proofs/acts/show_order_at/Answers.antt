use Rattle.std.proofs.Common.{◌≤◌, ◌∙◌, ap, sym}
use Rattle.std.specs.Prelude.{◌==◌}
use Rattle.model_laws.proofs.Finds.{each_found}
use Rattle.desk_model.specs.{Limits.last_end, Shown.order_reply, Shown.shown}
use Rattle.desk_core.proofs.MovedReplies.{named_at}
use Rattle.core_replies.proofs.Results.{ok_so}
use Rattle.desk_core.proofs.acts.show_order_at.Goals as goal

pub returns : goal.returns
returns c =
    let T = c.args.at.now in
    ok_so c.show_order.result (λ r said moment is texts.
    said T (named_at moment c.args.book.now T is)
    (each_found (λ o. o.expires ≤ last_end) (λ o. o.number == c.args.number) T.orders _ texts.orders c.in_ok-row.ensures)
    ∙ ap (shown (order_reply 200 T)) (sym c.in_ok-row.ensures))
    c.show_order.ensures
