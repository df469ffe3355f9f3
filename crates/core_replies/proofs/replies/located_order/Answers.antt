use Rattle.core_replies.specs.Shown.{capped_order}
use Rattle.core_replies.proofs.PlainDocuments.{order_plain}
use Rattle.core_replies.proofs.replies.located_order.Goals as goal

pub shown_document-requires : goal.shown_document-requires
shown_document-requires c = order_plain c.args.policy.now c.args.names.now (capped_order c.args.row.now)
