use Rattle.core_replies.proofs.PlainDocuments.{account_plain}
use Rattle.core_replies.proofs.replies.account_reply.Goals as goal

pub shown_document-requires : goal.shown_document-requires
shown_document-requires c = account_plain c.args.policy.now c.args.row.now
